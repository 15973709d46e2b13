-- TOKENS WRITTEN ONE AFTER ANOTHER: a row of n is 5 * n words, so the next row stands 5 * n words on; and a class's four words are those of its number.
use mathlib.Core.Path.{◌≡◌, refl, sym, ap, ap₂, ◌∙◌}
use mathlib.Core.List.{List, [], ◌∷◌, ◌++◌, append_assoc, append-nil}
use Prim.Native.Nat.{ℕ, zero, suc, ◌+◌, ◌-◌, ◌*◌}
use native.Mathlib.Omega.{arith}
use lib.ListN.{length, take, drop, length-append}
use lib.Seq.{sets}
use Rattle.model.specs.Grammar.{copies, repeated, times}
use Rattle.model.specs.Models.Tokens.{a_letter, Token, tokens}
use Rattle.model.specs.Models.Words.{Fit}
use Rattle.model.specs.Tree.{end, once, option, Repeat, Seq}
use Rattle.model.proofs.Laws.Stores.{sets_append}
use Rattle.rule_letters.specs.Classes.{bytes_of, words_of}
use Rattle.tokens.specs.Kinds.{repeat_kind}
use Rattle.tokens.specs.Rows.{row_words, token_words}
use Rattle.tokens.proofs.Rows.{row_append, row_length}
use Rattle.rule.specs.Tokens.{opened, times_words}
use Rattle.rule_letters.specs.declared.classes.Class.{Class}
use Rattle.rule_letters.proofs.Laws.Classes.{class_words}
use Rattle.rule.proofs.Laws.Stores.{sets_opened}

-- ---- rows of tokens
pub sets_row_append : (l : List ℕ) (n : ℕ) (a b : List Token)
    → sets l (5 * n) (row_words (a ++ b)) ≡ sets (sets l (5 * n) (row_words a)) (5 * (n + length a)) (row_words b)
sets_row_append l n a b =
    let e : 5 * n + length (row_words a) ≡ 5 * (n + length a) = omega (arith, row_length a) in
    ap (sets l (5 * n)) (row_append a b)
    ∙ sets_append l (5 * n) (row_words a) (row_words b)
    ∙ ap (λ (k : ℕ). sets (sets l (5 * n) (row_words a)) k (row_words b)) e

-- the words ws before a row that is written
pub opened_row : (l : List ℕ) (n : ℕ) (a : List Token) (ws : List ℕ)
    → opened (sets l (5 * n) (row_words a)) n (length a) ws ≡ sets l (5 * n) (ws ++ row_words a)
opened_row l n a ws =
    let old = sets l (5 * n) (row_words a) in
    ap (λ (k : ℕ). sets old (5 * n) (ws ++ take k (drop (5 * n) old))) (sym (row_length a)) ∙ sets_opened l (5 * n) (row_words a) ws

-- ---- a token many times
pub times_length : (n : ℕ) (ws : List ℕ) → length ws ≡ 5 → length (times_words n ws) ≡ 5 * n
times_length zero ws h = refl
times_length (suc n) ws h = omega (arith, length-append ws (times_words n ws), times_length n ws h)

times_last : (n : ℕ) (ws : List ℕ) → times_words (suc n) ws ≡ times_words n ws ++ ws
times_last zero ws = append-nil ws
times_last (suc n) ws = ap (λ (r : List ℕ). ws ++ r) (times_last n ws) ∙ sym (append_assoc ws (times_words n ws) ws)

-- one time more
pub sets_times : (l : List ℕ) (n i : ℕ) (ws : List ℕ) → length ws ≡ 5
    → sets (sets l (5 * n) (times_words i ws)) (5 * (n + i)) ws ≡ sets l (5 * n) (times_words (suc i) ws)
sets_times l n i ws h =
    let e : 5 * (n + i) ≡ 5 * n + length (times_words i ws) = omega (arith, times_length i ws h) in
    ap (λ (k : ℕ). sets (sets l (5 * n) (times_words i ws)) k ws) e
    ∙ sym (sets_append l (5 * n) (times_words i ws) ws)
    ∙ ap (sets l (5 * n)) (sym (times_last i ws))

row_copies : (n c : ℕ) (r : Repeat) (s : Seq)
    → row_words (tokens (copies n c r s) []) ≡ times_words n (token_words (a_letter c r)) ++ row_words (tokens s [])
row_copies zero c r s = refl
row_copies (suc n) c r s =
    let ws = token_words (a_letter c r) in
    ap (λ (k : List ℕ). ws ++ k) (row_copies n c r s) ∙ sym (append_assoc ws (times_words n ws) (row_words (tokens s [])))

pub copies_length : (n c : ℕ) (r : Repeat) (s : Seq) → length (tokens (copies n c r s) []) ≡ n + length (tokens s [])
copies_length zero c r s = omega arith
copies_length (suc n) c r s = omega (arith, copies_length n c r s)

-- ---- a letter's words
pub letter_words : (c : Class) (r : Repeat) → Fit (words_of c) → token_words (a_letter (bytes_of c) r) ≡ repeat_kind r ∷ words_of c
letter_words c r f = ap (λ (ws : List ℕ). repeat_kind r ∷ ws) (class_words c f)

-- y - x times the letter with `?`, then x times the letter
pub times_row : (c : Class) (x y : ℕ) → Fit (words_of c)
    → row_words (tokens (repeated (bytes_of c) (times x y)) []) ≡ times_words (y - x) (repeat_kind option ∷ words_of c) ++ times_words x (repeat_kind once ∷ words_of c)
times_row c x y f =
    row_copies (y - x) (bytes_of c) option (copies x (bytes_of c) once end)
    ∙ ap₂ ◌++◌ (ap (times_words (y - x)) (letter_words c option f))
    (row_copies x (bytes_of c) once end ∙ append-nil (times_words x (token_words (a_letter (bytes_of c) once))) ∙ ap (times_words x) (letter_words c once f))
