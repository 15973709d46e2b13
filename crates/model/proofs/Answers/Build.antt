-- Build's table gives every rule and every lent room exactly one answer: the one that reading the rule and comparing four numbers decides.
use mathlib.Core.Path.{◌≡◌, refl, sym, ap, ◌∙◌}
use mathlib.Core.Logic.{◌⊎◌, inl, inr, ◌≢◌}
use mathlib.Core.Bool.{cond}
use mathlib.Core.List.{List}
use mathlib.Core.Option.{Option, none, some}
use Prim.Native.Nat.{ℕ, ◌≤◌, ◌<◌}
use native.Mathlib.Omega.{arith}
use lib.Dec.{leb}
use lib.ListN.{length}
use Rattle.model.specs.Tree.{Tree}
use Rattle.model.specs.Grammar.{IsRule}
use Rattle.model.specs.Edges.{depth, states}
use Rattle.model.specs.Image.{image}
use Rattle.model.specs.Place.{PlaceIs}
use Rattle.model.specs.Answers.{BuildSays, built, Counted, done, no_room, not_a_rule, refused, refused_at, rule_too_long, too_deep, too_many_states}
use Rattle.model.specs.Models.Reader.{read_place, read_rule}
use Rattle.model.proofs.Answers.One.{one_answer}
use Rattle.model.proofs.Laws.Bool.{le_or_lt, pick-gt, pick-le}
use Rattle.model.proofs.Reading.Decides.{reads}
use Rattle.model.proofs.Reading.Place.{one_place, place_is}

-- ---- the answer, computed: checks 3 to 5 on a tree, check 2 on what was read, check 1 on the rule
abbrev tree_answer : Tree → List ℕ → Counted
tree_answer t before =
    cond (leb (states t) 512)
    (cond (leb (depth t) 8) (cond (leb (length (image t)) (length before)) (done (image t) before) (refused 5 before)) (refused 4 before))
    (refused 3 before)

abbrev read_answer : (place : ℕ) → Option Tree → List ℕ → Counted
read_answer p none before = refused_at p 2 before
read_answer p (some t) before = tree_answer t before

abbrev pub build_answer : List ℕ → List ℕ → Counted
build_answer rule before = cond (leb (length rule) 1024) (read_answer (read_place rule) (read_rule rule) before) (refused 1 before)

-- ---- a check that fails, and one that passes
module _ (t : Tree) (before : List ℕ) where
  abbrev by_room : Counted
  by_room = cond (leb (length (image t)) (length before)) (done (image t) before) (refused 5 before)

  abbrev by_depth : Counted
  by_depth = cond (leb (depth t) 8) by_room (refused 4 before)

  many : 512 < states t → tree_answer t before ≡ refused 3 before
  many m = pick-gt (states t) 512 by_depth (refused 3 before) m

  deep : states t ≤ 512 → 8 < depth t → tree_answer t before ≡ refused 4 before
  deep m k = pick-le (states t) 512 by_depth (refused 3 before) m ∙ pick-gt (depth t) 8 by_room (refused 4 before) k

  near : states t ≤ 512 → depth t ≤ 8 → tree_answer t before ≡ by_room
  near m k = pick-le (states t) 512 by_depth (refused 3 before) m ∙ pick-le (depth t) 8 by_room (refused 4 before) k

  wide : states t ≤ 512 → depth t ≤ 8 → length before < length (image t) → tree_answer t before ≡ refused 5 before
  wide m k r = near m k ∙ pick-gt (length (image t)) (length before) (done (image t) before) (refused 5 before) r

  fits : states t ≤ 512 → depth t ≤ 8 → length (image t) ≤ length before → tree_answer t before ≡ done (image t) before
  fits m k r = near m k ∙ pick-le (length (image t)) (length before) (done (image t) before) (refused 5 before) r

-- ---- what the table says is that answer
module _ (rule before : List ℕ) where
  short : length rule ≤ 1024 → build_answer rule before ≡ read_answer (read_place rule) (read_rule rule) before
  short l = pick-le (length rule) 1024 (read_answer (read_place rule) (read_rule rule) before) (refused 1 before) l

  long : 1024 < length rule → build_answer rule before ≡ refused 1 before
  long l = pick-gt (length rule) 1024 (read_answer (read_place rule) (read_rule rule) before) (refused 1 before) l

  read : (t : Tree) → length rule ≤ 1024 → IsRule rule t → build_answer rule before ≡ tree_answer t before
  read t l d = short l ∙ ap (λ (o : Option Tree). read_answer (read_place rule) o before) ((reads rule t).0 d)

  unread : ((t : Tree) → IsRule rule t → ⊥) → read_rule rule ≡ none
  unread f = go (read_rule rule) refl
    where
      go : (o : Option Tree) → read_rule rule ≡ o → read_rule rule ≡ none
      go none e = e
      go (some t) e = absurd (f t ((reads rule t).1 e))

  build_is : (a : Counted) → BuildSays rule before a → a ≡ build_answer rule before
  build_is a (rule_too_long l e) = e ∙ sym (long l)
  build_is a (not_a_rule p l f P e) =
      e ∙ ap (λ (k : ℕ). refused_at k 2 before) (one_place rule p (read_place rule) P (place_is rule))
      ∙ sym (short l ∙ ap (λ (o : Option Tree). read_answer (read_place rule) o before) (unread f))
  build_is a (too_many_states t l d m e) = e ∙ sym (read t l d ∙ many t before m)
  build_is a (too_deep t l d m k e) = e ∙ sym (read t l d ∙ deep t before m k)
  build_is a (no_room t l d m k r e) = e ∙ sym (read t l d ∙ wide t before m k r)
  build_is a (built t l d m k r e) = e ∙ sym (read t l d ∙ fits t before m k r)

  -- THE TABLE SAYS SOMETHING FOR EVERY INPUT
  pub build_total : BuildSays rule before (build_answer rule before)
  build_total = go (le_or_lt (length rule) 1024)
    where
      Said : Type 0
      Said = BuildSays rule before (build_answer rule before)

      roomy : (t : Tree) → length rule ≤ 1024 → IsRule rule t → states t ≤ 512 → depth t ≤ 8
          → (length (image t) ≤ length before) ⊎ (length before < length (image t)) → Said
      roomy t l d m k (inl r) = built t l d m k r (read t l d ∙ fits t before m k r)
      roomy t l d m k (inr r) = no_room t l d m k r (read t l d ∙ wide t before m k r)

      shallow : (t : Tree) → length rule ≤ 1024 → IsRule rule t → states t ≤ 512 → (depth t ≤ 8) ⊎ (8 < depth t) → Said
      shallow t l d m (inl k) = roomy t l d m k (le_or_lt (length (image t)) (length before))
      shallow t l d m (inr k) = too_deep t l d m k (read t l d ∙ deep t before m k)

      few : (t : Tree) → length rule ≤ 1024 → IsRule rule t → (states t ≤ 512) ⊎ (512 < states t) → Said
      few t l d (inl m) = shallow t l d m (le_or_lt (depth t) 8)
      few t l d (inr m) = too_many_states t l d m (read t l d ∙ many t before m)

      known : length rule ≤ 1024 → (o : Option Tree) → read_rule rule ≡ o → Said
      known l none e =
          not_a_rule (read_place rule) l (λ t d. no_tree t (sym e ∙ (reads rule t).0 d)) (place_is rule)
          (short l ∙ ap (λ (o : Option Tree). read_answer (read_place rule) o before) e)
        where
          no_tree : (t : Tree) → none ≡ some t → ⊥
          no_tree t p = let z : ◌≡◌ {A = ℕ} 0 1 = cc in omega arith
      known l (some t) e = let d = (reads rule t).1 e in few t l d (le_or_lt (states t) 512)

      go : (length rule ≤ 1024) ⊎ (1024 < length rule) → Said
      go (inl l) = known l (read_rule rule) refl
      go (inr l) = rule_too_long l (long l)

-- TWO ANSWERS THAT MEET BUILD'S TABLE FOR ONE INPUT ARE EQUAL
pub build_one : (rule before : List ℕ) (a b : Counted) → BuildSays rule before a → BuildSays rule before b → a ≡ b
build_one rule before = one_answer (build_is rule before)

-- "WITH 2 THE BUILDER SHALL ALSO GIVE A PLACE"
pub place_with_2 : (rule before : List ℕ) (a : Counted) → BuildSays rule before a → a.number ≡ 2 → PlaceIs rule a.place
place_with_2 rule before a (rule_too_long l e) z = absurd (omega (arith, ap (λ (x : Counted). x.number) e))
place_with_2 rule before a (not_a_rule p l f P e) z = rw e P
place_with_2 rule before a (too_many_states t l d m e) z = absurd (omega (arith, ap (λ (x : Counted). x.number) e))
place_with_2 rule before a (too_deep t l d m k e) z = absurd (omega (arith, ap (λ (x : Counted). x.number) e))
place_with_2 rule before a (no_room t l d m k r e) z = absurd (omega (arith, ap (λ (x : Counted). x.number) e))
place_with_2 rule before a (built t l d m k r e) z = absurd (omega (arith, ap (λ (x : Counted). x.number) e))

-- "ALL OTHER ANSWERS CARRY PLACE 0"
pub no_place_else : (rule before : List ℕ) (a : Counted) → BuildSays rule before a → a.number ≢ 2 → a.place ≡ 0
no_place_else rule before a (rule_too_long l e) z = rw e
no_place_else rule before a (not_a_rule p l f P e) z = absurd (z (rw e))
no_place_else rule before a (too_many_states t l d m e) z = rw e
no_place_else rule before a (too_deep t l d m k e) z = rw e
no_place_else rule before a (no_room t l d m k r e) z = rw e
no_place_else rule before a (built t l d m k r e) z = rw e
