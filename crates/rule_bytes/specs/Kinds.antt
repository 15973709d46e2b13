-- THE KINDS OF BYTES, as the table has them.
use Rattle.model.specs.Bytes.{digit_byte, hex_byte, Kind as KindOfByte, other_byte, plain_byte, sign_byte}
use Rattle.rule_bytes.specs.declared.Kind.{Kind}
use Rattle.rule_bytes.specs.declared.Kind.TheVariants.{Digit, Hex, Other, Plain, Sign}

abbrev pub in_table : KindOfByte → Kind
in_table digit_byte = Digit
in_table hex_byte = Hex
in_table plain_byte = Plain
in_table sign_byte = Sign
in_table other_byte = Other
