-- WHAT WAS PUT INTO A ROOM: the room stays as long as it was, and what is said of all that was found, and of the room before, is said of what lies in it.
-- Of build: done was said of an image that has room.
use mathlib.Core.Path.{◌≡◌, sym, ap, ◌∙◌, subst}
use mathlib.Core.List.{List}
use Prim.Native.Nat.{ℕ, zero, suc, ◌≤◌, ◌<◌}
use native.Mathlib.Omega.{arith}
use lib.ListN.{drop, length, length-take, replicate, take, take-append-drop}
use lib.Seq.{length-sets}
use Rattle.model.specs.Answers.{BuildSays, built, Counted, done, no_room, not_a_rule, refused, rule_too_long, too_deep, too_many_states}
use Rattle.model.specs.Image.{image}
use Rattle.model.specs.Lists.{All}
use Rattle.model.proofs.Laws.Lists.{all_app, all_left, all_right}
use Rattle.model.proofs.Laws.Stores.{sets_fit}

pub room_kept : (found room : List ℕ) → length (done found room).lent ≡ length room
room_kept found room = sym (ap length (sets_fit room found)) ∙ length-sets room 0 found

module _ (Q : ℕ → Type 0) where
  pub all_zeros : Q 0 → (n : ℕ) → All Q (replicate n 0)
  all_zeros q zero = tt
  all_zeros q (suc n) = (q, all_zeros q n)

  pub all_take : (n : ℕ) (ps : List ℕ) → All Q ps → All Q (take n ps)
  all_take n ps A = all_left Q (take n ps) (drop n ps) (subst (All Q) (sym (take-append-drop n ps)) A)

  pub all_done : (found room : List ℕ) → All Q found → All Q room → All Q (done found room).lent
  all_done found room F R =
      all_app Q (take (length room) found) (drop (length found) room) (all_take (length room) found F)
      (all_right Q (take (length found) room) (drop (length found) room) (subst (All Q) (sym (take-append-drop (length found) room)) R))

-- ---- the first n of what was lent
pub record First (n : ℕ) (after : List ℕ) : Type 0 where
  pub fits : n ≤ length after
  pub counted : n ≡ length (take n after)

pub first : {n room : ℕ} {after : List ℕ} → n ≤ room → length after ≡ room → First n after
first {n} {room} {after} l e = record { fits = omega (arith, e); counted = omega (arith, length-take n after, e) }

-- ---- an answer's number has one digit, its place at most four, and its count is within the room
pub record Fits (before : List ℕ) (a : Counted) : Type 0 where
  pub number : a.number < 10
  pub place : a.place < 10000
  pub count : a.given ≤ length before

pub none_fits : (before : List ℕ) (n : ℕ) → n < 10 → Fits before (refused n before)
none_fits before n l = record { number = l; place = omega arith; count = omega arith }

pub all_fits : (before whole : List ℕ) → length whole ≤ length before → Fits before (done whole before)
all_fits before whole l = record { number = omega arith; place = omega arith; count = l }

pub build_fits : {rule before : List ℕ} {a : Counted} → BuildSays rule before a → Fits before a
build_fits {before = before} (rule_too_long l e) = rw e (none_fits before 1 (omega arith))
build_fits (not_a_rule p l f P e) = rw e (record { number = omega arith; place = omega (arith, P.inside); count = omega arith })
build_fits {before = before} (too_many_states t l d m e) = rw e (none_fits before 3 (omega arith))
build_fits {before = before} (too_deep t l d m k e) = rw e (none_fits before 4 (omega arith))
build_fits {before = before} (no_room t l d m k n e) = rw e (none_fits before 5 (omega arith))
build_fits {before = before} (built t l d m k n e) = rw e (all_fits before (image t) n)
