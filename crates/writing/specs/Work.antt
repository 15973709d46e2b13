-- WHAT THE PARTS OF READ BACK FIND AND WRITE: each union's own mark; the text of each token, and of a row of them.
use Rattle.std.specs.Prelude.{◌≡◌, cond, Err, List, [], ◌∷◌, ◌++◌, None, Ok, Option, Result, Some, ℕ, suc, leb, get_or, length}
use Rattle.std.proofs.lemmas.List.Edits.{sets}
use Rattle.model.specs.Bytes.{byte, bytes}
use Rattle.model.specs.Image.{join}
use Rattle.model.specs.Models.LayOut.{begin, owns}
use Rattle.model.specs.Writing.{class_writing, mark_writing, repeat_writing}
use Rattle.answers.specs.declared.Refusal.{Refusal}
use Rattle.answers.specs.declared.Refusal.TheVariants.{NoRoomForWriting}
use Rattle.image_classes.specs.Classes.{class_to}
use Rattle.tokens.specs.Kinds.{read_kind}
use Rattle.tokens.specs.Tokens.{mark_of, repeat_of}
use Rattle.tokens.specs.declared.token.Token.{Token}
use Rattle.tokens.specs.declared.token.Token.TheVariants.{Bar, Close, Letter, Open}
use Rattle.tokens_masks.specs.Tapes.{tokens_of}
use Rattle.tokens_masks.specs.declared.Tape.{Tape}

-- ---- the tape with each union's own mark
pub record OwnMarks (t r : Tape) : Type 0 where
  pub long : r.length ≡ t.length
  pub tokens_are : tokens_of r ≡ owns (tokens_of t) begin

-- ---- tokens
-- the text of a sign, or of none
abbrev pub bytes_if : Option ℕ → List ℕ
bytes_if None = []
bytes_if (Some b) = b ∷ []

-- the text of a token, of a letter that of the class c
abbrev pub token_text : ℕ → Token → List ℕ
token_text c (Letter r) = class_writing c ++ repeat_writing (repeat_of r)
token_text c Open = bytes "("
token_text c Bar = bytes "|"
token_text c (Close m) = byte ")" ∷ mark_writing (mark_of m)

-- n tokens from `from` on, each with the class of the bytes that lead to the state after it
abbrev pub range_text : List ℕ → ℕ → List ℕ → (n from : ℕ) → List ℕ
range_text ws W kinds n from = join n from (λ i. token_text (class_to ws W (suc i)) (read_kind (get_or kinds i 0)))

-- ---- the whole: written if there is room
abbrev pub written_if : List ℕ → List ℕ → Result ℕ Refusal
written_if text before = cond (leb (length text) (length before)) (Ok (length text)) (Err NoRoomForWriting)

abbrev pub bytes_after : List ℕ → List ℕ → List ℕ
bytes_after text before = cond (leb (length text) (length before)) (sets before 0 text) before
