-- BUILD'S COUNT AND PLACE FIT: an image within 512 states and depth 8 is at most 4,834 words long, and a place is at most the rule's length.
use mathlib.Core.Path.{◌≡◌, refl, sym, ap, ◌∙◌, subst}
use mathlib.Core.Logic.{◌≢◌}
use mathlib.Core.List.{List}
use Prim.Native.Nat.{ℕ, ◌+◌, ◌/◌, ◌%◌, ◌^◌, ◌≤◌}
use native.Mathlib.Omega.{arith}
use lib.ListN.{length}
use Rattle.model.specs.Answers.{Counted, BuildSays, built, no_room, not_a_rule, rule_too_long, too_deep, too_many_states}
use Rattle.model.specs.Edges.{depth, states}
use Rattle.model.specs.Image.{image}
use Rattle.model.specs.Place.{PlaceIs}
use Rattle.model.specs.Tree.{Tree}
use Rattle.model.proofs.Answers.Build.{build_one, no_place_else, place_with_2}
use Rattle.image_sections.specs.Sections.{sections_of}
use Rattle.image_sections.proofs.Laws.Within.{within_limits}
use Rattle.image.proofs.Laws.OfSets.{length_image}
use Rattle.panel.specs.Says.{Gives, itself}
use Rattle.panel.proofs.Laws.Given.{Apart, apart, halves, one_given}

image_small : (t : Tree) → states t ≤ 512 → depth t ≤ 8 → length (image t) ≤ 4834
image_small t m d = omega (arith, length_image t, (within_limits {p = sections_of (states t) (depth t)} refl m d).short)

module _ {rule before : List ℕ} where
  pub build_small : {a : Counted} → BuildSays rule before a → (a.place ≤ 1024) × (a.given ≤ 4834)
  build_small (rule_too_long l e) = (omega (arith, ap (λ (a : Counted). a.place) e), omega (arith, ap (λ (a : Counted). a.given) e))
  build_small (not_a_rule p l f P e) = (omega (arith, ap (λ (a : Counted). a.place) e, P.inside), omega (arith, ap (λ (a : Counted). a.given) e))
  build_small (too_many_states t l d m e) = (omega (arith, ap (λ (a : Counted). a.place) e), omega (arith, ap (λ (a : Counted). a.given) e))
  build_small (too_deep t l d m k e) = (omega (arith, ap (λ (a : Counted). a.place) e), omega (arith, ap (λ (a : Counted). a.given) e))
  build_small (no_room t l d m k n e) = (omega (arith, ap (λ (a : Counted). a.place) e), omega (arith, ap (λ (a : Counted). a.given) e))
  build_small (built t l d m k n e) = (omega (arith, ap (λ (a : Counted). a.place) e), omega (arith, ap (λ (a : Counted). a.given) e, image_small t m k))

  -- with 2 there is a place and no count
  count_with_2 : {a : Counted} → BuildSays rule before a → a.number ≡ 2 → a.given ≡ 0
  count_with_2 (rule_too_long l e) z = ap (λ (a : Counted). a.given) e
  count_with_2 (not_a_rule p l f P e) z = ap (λ (a : Counted). a.given) e
  count_with_2 (too_many_states t l d m e) z = ap (λ (a : Counted). a.given) e
  count_with_2 (too_deep t l d m k e) z = ap (λ (a : Counted). a.given) e
  count_with_2 (no_room t l d m k n e) z = ap (λ (a : Counted). a.given) e
  count_with_2 (built t l d m k n e) z = absurd (omega (arith, z, ap (λ (a : Counted). a.number) e))

  -- WHAT A CALLER TAKES FROM THE NUMBER GIVEN is the table's number, with 2 its place and else its count; and there is one number to be given
  module _ {r : ℕ} {after : List ℕ} (G : Gives itself (BuildSays rule before) r after) where
    build_halves : (r / 2 ^ 32 ≡ G.number) × (r % 2 ^ 32 ≡ G.place + G.given)
    build_halves = let k = build_small G.says in halves G (omega (arith, k.0, k.1))

    pub build_place : r / 2 ^ 32 ≡ 2 → PlaceIs rule (r % 2 ^ 32)
    build_place z =
        let n : G.number ≡ 2 = sym build_halves.0 ∙ z in
        let e : r % 2 ^ 32 ≡ G.place = omega (arith, build_halves.1, count_with_2 G.says n) in
        subst (PlaceIs rule) (sym e) (place_with_2 rule before _ G.says n)

    pub build_apart : r / 2 ^ 32 ≢ 2 → Apart G
    build_apart n =
        let k = build_small G.says in
        apart G (no_place_else rule before _ G.says (λ e. n (build_halves.0 ∙ e))) (omega (arith, k.1))

    pub build_given : {q : ℕ} {later : List ℕ} → Gives itself (BuildSays rule before) q later → (r ≡ q) × (after ≡ later)
    build_given = one_given G (build_one rule before)
