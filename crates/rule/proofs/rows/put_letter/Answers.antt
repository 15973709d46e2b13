-- `put_letter`: a plain sign makes one token, numbers in braces make the two rows that document 01 names, one after the other.
use mathlib.Core.Path.{◌≡◌, refl, sym, ap, ◌∙◌}
use mathlib.Core.List.{List, [], ◌∷◌}
use Prim.Native.Nat.{ℕ, ◌+◌, ◌-◌, ◌*◌, ◌≤◌}
use native.Mathlib.Omega.{arith}
use lib.ListN.{length}
use lib.Seq.{length-sets, sets}
use Rattle.model.specs.Grammar.{copies, plainly, repeated, Sign, times}
use Rattle.model.specs.Models.Tokens.{tokens}
use Rattle.model.specs.Models.Words.{Fit}
use Rattle.model.specs.Tree.{end, once, option, Repeat}
use Rattle.model.proofs.Laws.Stores.{sets_append}
use Rattle.rule_letters.specs.Classes.{bytes_of, words_of}
use Rattle.rule_letters.specs.declared.classes.Class.{Class}
use Rattle.tokens.specs.Kinds.{repeat_kind}
use Rattle.tokens.specs.Tokens.{repeat_of}
use Rattle.rule.specs.Tokens.{cut, Stands, times_words}
use Rattle.rule.proofs.Laws.Stands.{sets_alike}
use Rattle.rule.proofs.Laws.RowWords.{copies_length, letter_words, times_length, times_row}
use Rattle.rule.proofs.rows.put_letter.Goals as goal

module _ (l : List ℕ) (n : ℕ) (class : Class) (room : length l ≡ 2555) (fits : Fit (words_of class)) where
  -- what is ensured where the sign is q, the answer r, and t is left
  abbrev Letter : Sign → ℕ → List ℕ → Type 0
  Letter q r t = Stands l t n r (tokens (repeated (bytes_of class) q) [])

  plain : (q : Repeat) (k r : ℕ) (t : List ℕ) → k ≡ repeat_kind q → r ≡ cut (n + 1) → t ≡ sets l (5 * n) (k ∷ words_of class) → Letter (plainly q) r t
  plain q k r t d h e = record {
    room = room;
    count = h;
    written =
        e
        ∙ ap (λ (j : ℕ). sets l (5 * n) (j ∷ words_of class)) d
        ∙ ap (sets l (5 * n)) (sym (letter_words class q fits));
  }

  module _ (x y : ℕ) where
    abbrev options : List ℕ
    options = times_words (y - x) (repeat_kind option ∷ words_of class)

    abbrev onces : List ℕ
    onces = times_words x (repeat_kind once ∷ words_of class)

    abbrev begun : List ℕ
    begun = sets l (5 * n) options

    braces : x ≤ y → (i r : ℕ) (t u : List ℕ) → i ≡ cut (n + (y - x)) → t ≡ begun → r ≡ cut (i + x) → u ≡ sets t (5 * i) onces → Letter (times x y) r u
    braces h i r t u f0 f1 g0 g1 =
        let c = bytes_of class in
        let k : 5 * (n + (y - x)) ≡ 5 * n + length options = omega (arith, times_length (y - x) (repeat_kind option ∷ words_of class) refl) in
        record {
          room = room;
          count = omega (arith, f0, g0, copies_length (y - x) c option (copies x c once end), copies_length x c once end);
          written =
              g1
              ∙ ap (λ (v : List ℕ). sets v (5 * i) onces) f1
              ∙ sets_alike begun (length-sets l (5 * n) options ∙ room) i (n + (y - x)) onces (omega (arith, f0))
              ∙ ap (λ (j : ℕ). sets begun j onces) k
              ∙ sym (sets_append l (5 * n) options onces)
              ∙ ap (sets l (5 * n)) (sym (times_row class x y fits));
        }

pub overflow_sub-y : goal.overflow_sub-y
overflow_sub-y c = (rw c.in-Times.is at c.requires.2).0

pub put_many-requires : goal.put_many-requires
put_many-requires c =
    let m = c.put_many-next.ensures in
    (ap length m.written ∙ simp length-sets c.requires.0, omega (arith, m.count))

pub returns-in-Plainly : goal.returns-in-Plainly
returns-in-Plainly c =
    let a = c.args in
    let o = c.put_token.ensures in
    rw c.in-Plainly.is
    (plain a.tokens.now a.n a.class c.requires.0 (omega arith, (omega arith, (omega arith, (omega arith, tt)))) (repeat_of c.in-Plainly.repeat) c.repeat_kind.result c.put_token.result c.put_token.new.tokens
    c.repeat_kind.ensures o.count o.written)

pub returns-in-Times : goal.returns-in-Times
returns-in-Times c =
    let a = c.args in
    let m = c.put_many-next in
    let o = c.put_many in
    rw c.in-Times.is
    (braces a.tokens.now a.n a.class c.requires.0 (omega arith, (omega arith, (omega arith, (omega arith, tt)))) c.in-Times.x c.in-Times.y (rw c.in-Times.is at c.requires.2).0
    m.result o.result m.new.tokens o.new.tokens m.ensures.count m.ensures.written o.ensures.count o.ensures.written)
