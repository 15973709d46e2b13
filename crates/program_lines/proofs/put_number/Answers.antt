-- The library's digits are the fewest that hold the number, and those are the number's: at most twenty.
use mathlib.Core.Path.{◌≡◌, ap, ◌∙◌, subst}
use mathlib.Core.List.{List, [], ◌∷◌}
use Prim.Native.Nat.{ℕ}
use native.Mathlib.Omega.{arith}
use lib.ListN.{length, length-append, take}
use Rattle.program_lines.specs.Lines.{decimal, line}
use Rattle.program_lines.specs.Work.{PutAt}
use Rattle.program_lines.proofs.Laws.Numbers.{fewest_decimal, number_short}
use Rattle.program_lines.proofs.put_number.Goals as goal

pub put_line-requires : goal.put_line-requires
put_line-requires c =
    let d = c.decimal-length in
    let n = c.args.number in
    let the-digits : take d.result d.new.out ≡ decimal n = d.ensures.digits ∙ fewest_decimal n d.result d.ensures.len in
    omega (arith, ap length the-digits, number_short 19 n (omega arith), length-append (decimal n) (10 ∷ []))

pub returns : goal.returns
returns c =
    let d = c.decimal-length in
    let n = c.args.number in
    let the-digits : take d.result d.new.out ≡ decimal n = d.ensures.digits ∙ fewest_decimal n d.result d.ensures.len in
    subst (λ (x : List ℕ). PutAt (line x) c.args.text.now c.args.at c.put_line.result c.put_line.new.text) the-digits c.put_line.ensures
