-- MATCH'S COUNT FITS: a text of at most 65,535 bytes has at most 65,536 ends.
use mathlib.Core.Path.{◌≡◌, ap}
use mathlib.Core.List.{List}
use Prim.Native.Nat.{ℕ, ◌≤◌}
use native.Mathlib.Omega.{arith}
use Rattle.model.specs.Answers.{Counted, matched, MatchSays, not_an_image, text_too_long}
use Rattle.model.proofs.Answers.Match.{match_one}
use Rattle.model.proofs.Words.Run.{Bytes}
use Rattle.watcher.proofs.Laws.Ends.{ends_few}
use Rattle.panel.specs.Says.{Gives, itself}
use Rattle.panel.proofs.Laws.Given.{Apart, apart, one_given}

module _ {words text before : List ℕ} where
  pub count_small : {a : Counted} → MatchSays words text before a → (a.place ≡ 0) × (a.given ≤ 65536)
  count_small (not_an_image n e) = (ap (λ (a : Counted). a.place) e, omega (arith, ap (λ (a : Counted). a.given) e))
  count_small (text_too_long t i l e) = (ap (λ (a : Counted). a.place) e, omega (arith, ap (λ (a : Counted). a.given) e))
  count_small (matched t ends i l E e) = (ap (λ (a : Counted). a.place) e, omega (arith, ap (λ (a : Counted). a.given) e, ends_few t text ends E))

  -- WHAT A CALLER TAKES FROM THE NUMBER GIVEN is the table's number and count; and there is one number to be given
  module _ {r : ℕ} {after : List ℕ} (G : Gives itself (MatchSays words text before) r after) where
    pub match_apart : Apart G
    match_apart = let k = count_small G.says in apart G k.0 (omega (arith, k.1))

    pub match_given : {q : ℕ} {later : List ℕ} → Bytes text → Gives itself (MatchSays words text before) q later → (r ≡ q) × (after ≡ later)
    match_given Y = one_given G (λ a b. match_one words text before a b Y)
