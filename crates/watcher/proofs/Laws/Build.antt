-- BUILD'S TABLE IS READING'S ROWS AND THEN STORING'S: a rule that is refused is refused so by both, and a tree that was read is stored by its tokens.
use mathlib.Core.Path.{◌≡◌, refl, ap₂, ◌∙◌}
use mathlib.Core.List.{List, []}
use Prim.Native.Nat.{ℕ, ◌+◌, ◌-◌, ◌*◌, ◌≤◌}
use native.Mathlib.Omega.{arith}
use lib.ListN.{drop, length, length-replicate, take}
use lib.Seq.{sets-eq, take-append_seam}
use Rattle.std.specs.Prelude.{Err, Ok, Result}
use Rattle.model.specs.Answers.{BuildSays, built, Counted, no_room, not_a_rule, rule_too_long, too_deep, too_many_states}
use Rattle.model.specs.Edges.{states}
use Rattle.model.specs.Grammar.{IsRule}
use Rattle.model.specs.Models.Tokens.{tokens}
use Rattle.model.specs.Tree as tree
use Rattle.model.proofs.Image.Tokens.{length_tokens}
use Rattle.answers.specs.Answers.{answered}
use Rattle.answers.specs.declared.Refusal.{Refusal}
use Rattle.tokens.specs.Rows.{row_words}
use Rattle.rule.specs.Says as reading
use Rattle.rule.specs.Tokens.{no_tokens, room_with}
use Rattle.rule.specs.declared.Tree.{Tree}
use Rattle.tokens.proofs.Rows.{row_length}
use Rattle.image.specs.Says as image

module _ (rule before : List ℕ) where
  -- the rule was read, and row holds the tokens of its tree, which has m states
  pub record TreeRead (t : tree.Tree) (m : ℕ) (row : List ℕ) : Type 0 where
    pub short : length rule ≤ 1024
    pub is_rule : IsRule rule t
    pub few : states t ≤ 512
    pub size : m ≡ states t
    pub held : row ≡ room_with (tokens t [])

  abbrev pub Answered : Result Tree Refusal → Type 0
  Answered (Err x) = BuildSays rule before (answered (Err x) before)
  Answered (Ok t) = (s : tree.Tree) × TreeRead s t.states t.tokens

  pub read_says : {r : Result Tree Refusal} → reading.ReadSays rule r → Answered r
  read_says (reading.too_long l e) = rw e (rule_too_long l refl)
  read_says (reading.not_a_rule p l f P e) = rw e (not_a_rule p l f P refl)
  read_says (reading.too_many_states t l d m e) = rw e (too_many_states t l d m refl)
  read_says (reading.read t l d m e) = rw e (t, record { short = l; is_rule = d; few = m; size = refl; held = refl })

  -- a refusal of the reading is passed on
  pub passed_on : {x y : Refusal} {r : Result ℕ Refusal} → reading.ReadSays rule (Err x) → r ≡ Err y → y ≡ x → BuildSays rule before (answered r before)
  passed_on R e same = rw (e, same) (read_says R)

  -- ---- a tree that was read
  module _ {t : tree.Tree} {m : ℕ} {row : List ℕ} (T : TreeRead t m row) where
    pub some_states : 1 ≤ m
    some_states = omega (arith, T.size)

    long : m - 1 ≡ length (tokens t [])
    long = omega (arith, T.size, length_tokens t)

    fits : length (row_words (tokens t [])) ≤ 2555
    fits = omega (arith, row_length (tokens t []), T.size, T.few, long)

    held_words : take (5 * (m - 1)) row ≡ row_words (tokens t [])
    held_words =
        let ws = row_words (tokens t []) in
        let n : 5 * (m - 1) ≡ length ws = omega (arith, row_length (tokens t []), long) in
        ap₂ take n (T.held ∙ sets-eq ws no_tokens 0 (omega (arith, fits, length-replicate {A = ℕ} 2555 0)))
        ∙ take-append_seam ws (drop (0 + length ws) no_tokens)

    is_held : image.TokensOf t row (m - 1)
    is_held = record { rule = rule; is_rule = T.is_rule; few = T.few; long = long; are = held_words }

    pub of_rule : image.OfRule row (m - 1)
    of_rule = (t, is_held)

    pub tree_built : {a : Counted} → image.StoreSays row (m - 1) before a → BuildSays rule before a
    tree_built {a} S = go (S t is_held)
      where
        go : image.TreeSays t before a → BuildSays rule before a
        go (image.too_deep k e) = too_deep t T.short T.is_rule T.few k e
        go (image.no_room k n e) = no_room t T.short T.is_rule T.few k n e
        go (image.stored k n e) = built t T.short T.is_rule T.few k n e
