-- THE RUN ON WORDS: with any masks that hold the tree's sets, in any number of words that has room, the rows of the run hold the live sets, and the bit
-- of the accepting state says whether a place is an end. For each pass on words is the pass on sets.
use mathlib.Core.Path.{◌≡◌, ap, ◌∙◌, subst, sym}
use mathlib.Core.Logic.{◌↔◌}
use mathlib.Core.Bool.{Bool, false, not, ◌&&◌, ◌||◌, or-false, or-true}
use mathlib.Core.List.{List, [], ◌∷◌}
use Prim.Native.Nat.{ℕ, zero, suc, ◌+◌, ◌≤◌, ◌<◌}
use native.Mathlib.Nat.{le_refl}
use native.Mathlib.Omega.{arith}
use lib.Dec.{T, eqb-suc-zero}
use lib.ListN.{take}
use Rattle.model.specs.Lists.{All}
use Rattle.model.specs.Bits.{bit}
use Rattle.model.specs.Tree.{Seq}
use Rattle.model.specs.Edges.{depth, seq_end, states}
use Rattle.model.specs.Models.Run.{ahead, close_words, fall_words, gather_by, Masks, move_by, pass_words, propagate_by, returns_words, return_words, rise_words, run_words, scatter_by, step_words}
use Rattle.model.specs.Models.Verdict.{same_words}
use Rattle.model.specs.Models.Words.{or_words, value}
use Rattle.model.proofs.Ends.Run.{letter_set, live_set, loop_set, moved, start_set}
use Rattle.model.proofs.Ends.Stops.{end_is, StopsAt}
use Rattle.model.proofs.Image.Rows.{wide}
use Rattle.model.proofs.Image.SameBits.{holds_one}
use Rattle.model.proofs.Image.Verdict.{same-words}
use Rattle.model.proofs.Language.Arcs.{Arc, arcs}
use Rattle.model.proofs.Language.Languages.{feed}
use Rattle.model.proofs.Laws.Bool.{cond_cases}
use Rattle.model.proofs.Passes.OnTrees.{falls, return_high}
use Rattle.model.proofs.Words.Back.{Clear}
use Rattle.model.proofs.Words.Chains.{propagates_of}
use Rattle.model.proofs.Words.Forks.{forks_of, Union}
use Rattle.model.proofs.Words.Full.{Full}
use Rattle.model.proofs.Words.Gather.{gather_block_of, gather_source_of, gather_target_of}
use Rattle.model.proofs.Words.GatherPass.{gathered}
use Rattle.model.proofs.Words.Holds.{Holds, holds_as}
use Rattle.model.proofs.Words.Operations.{holds_or, next}
use Rattle.model.proofs.Words.PassHolds.{gather_holds, move_holds, propagate_holds, return_holds, scatter_holds}
use Rattle.model.proofs.Words.Passes.{fallen, passed, risen}
use Rattle.model.proofs.Words.Propagate.{enters_of, leaves_of}
use Rattle.model.proofs.Words.PropagatePass.{propagated}
use Rattle.model.proofs.Words.Rounds.{ahead_is, closed, passed_twice, returned, returned_below, return_source, return_target, source_first, source_in, target_out}
use Rattle.model.proofs.Words.Scatter.{scatter_block_of, scatter_source_of, scatter_target_of}
use Rattle.model.proofs.Words.ScatterPass.{scattered}

-- ---- masks that hold a tree's sets
module _ (s : Seq) where
  abbrev forks : ℕ → List Union
  forks k = forks_of k (arcs s 0 0)

  abbrev leaves : ℕ → ℕ → Bool
  leaves k = leaves_of (propagates_of k (arcs s 0 0))

  abbrev enters : ℕ → ℕ → Bool
  enters k = enters_of (propagates_of k (arcs s 0 0))

pub record Carry (m W : ℕ) (s : Seq) (M : Masks) : Type 0 where
  pub room : m ≤ wide W
  pub whole : seq_end s 0 < m
  pub letters : (b : ℕ) → b < 256 → Holds m W (M.letter_mask b) (letter_set (arcs s 0 0) b)
  pub loops : (b : ℕ) → b < 256 → Holds m W (M.loop_mask b) (loop_set (arcs s 0 0) b)
  pub scatter-block : (k : ℕ) → k < depth s → Holds m W (M.scatter_mask k 0) (scatter_block_of (forks s k))
  pub scatter-source : (k : ℕ) → k < depth s → Holds m W (M.scatter_mask k 1) (scatter_source_of (forks s k))
  pub scatter-target : (k : ℕ) → k < depth s → Holds m W (M.scatter_mask k 2) (scatter_target_of (forks s k))
  pub gather-block : (k : ℕ) → k < depth s → Holds m W (M.gather_mask k 0) (gather_block_of (forks s k))
  pub gather-source : (k : ℕ) → k < depth s → Holds m W (M.gather_mask k 1) (gather_source_of (forks s k))
  pub gather-target : (k : ℕ) → k < depth s → Holds m W (M.gather_mask k 2) (gather_target_of (forks s k))
  pub propagate-block : (k : ℕ) → k ≤ depth s → Holds m W (M.propagate_mask k 0) (λ x. leaves s k x || enters s k x)
  pub propagate-source : (k : ℕ) → k ≤ depth s → Holds m W (M.propagate_mask k 1) (λ x. leaves s k x && not (enters s k x))
  pub propagate-target : (k : ℕ) → k ≤ depth s → Holds m W (M.propagate_mask k 2) (λ x. enters s k x && not (leaves s k x))
  pub back-source : (k : ℕ) → k < depth s → Holds m W (M.back_mask k 0) (return_source s k)
  pub back-target : (k : ℕ) → k < depth s → Holds m W (M.back_mask k 1) (return_target s k)
  pub start : Holds m W M.start_mask start_set

-- ---- a text, and what was read of it
abbrev pub Bytes : List ℕ → Type 0
Bytes w = All (λ b. b < 256) w

pub bytes_fed : (u v : List ℕ) → Bytes u → Bytes v → Bytes (feed u v)
bytes_fed u [] h k = h
bytes_fed u (b ∷ v) h k = bytes_fed (b ∷ u) v (k.0, h) k.1

pub bytes_take : (p : ℕ) (text : List ℕ) → Bytes text → Bytes (take p text)
bytes_take zero text h = tt
bytes_take (suc p) [] h = tt
bytes_take (suc p) (b ∷ text) h = (h.0, bytes_take p text h.1)

-- ---- from any row that holds a set
module _ (m W : ℕ) (s : Seq) (F : Full s) (M : Masks) (C : Carry m W s M) where
  abbrev es : List Arc
  es = arcs s 0 0

  module _ (D : List ℕ) (f : ℕ → Bool) (H : Holds m W D f) where
    pub scatter_is : (k : ℕ) → k < depth s → Holds m W (scatter_by M k D) (scattered s F k f)
    scatter_is k l = scatter_holds C.room H (C.scatter-block k l) (C.scatter-source k l) (C.scatter-target k l)

    pub gather_is : (k : ℕ) → k < depth s → Holds m W (gather_by M k D) (gathered s F k f)
    gather_is k l = gather_holds C.room H (C.gather-block k l) (C.gather-source k l) (C.gather-target k l)

    pub propagate_is : (k : ℕ) → k ≤ depth s → Holds m W (propagate_by M k D) (propagated s F k f)
    propagate_is k l = propagate_holds C.room H (C.propagate-block k l) (C.propagate-source k l) (C.propagate-target k l)

    return_is : (k : ℕ) → k < depth s → Holds m W (return_words (M.back_mask k 0) (M.back_mask k 1) D) (returned s F k f)
    return_is k l = return_holds C.room H (C.back-source k l) (C.back-target k l) found
      where
        found : (x : ℕ) → x < m → T (return_target s k x)
            → (q : ℕ) × (q < m) × (x ≤ q) × T (return_source s k q) × Clear (return_source s k) x q × (f q ≡ ahead (states s) false (return_source s k) f x)
        found x b h =
            let (q, i) = target_out s k x h in
            (q, omega (arith, return_high s F k q x i, C.whole), falls s F k q x i, source_in s F k q x i, source_first s F k q x i, sym (ahead_is s F k q x f i))

    move_is : (b : ℕ) → b < 256 → Holds m W (move_by M b D) (moved es b f)
    move_is b l = holds_as m W (move_by M b D) made (moved es b f) same (move_holds C.room H (C.letters b l) (C.loops b l) C.start)
      where
        made : ℕ → Bool
        made x = ((next f x && letter_set es b x) || (f x && loop_set es b x)) || start_set x

        same : (x : ℕ) → made x ≡ moved es b f x
        same zero = or-true (f zero && loop_set es b zero)
        same (suc x) =
            ap (λ (c : Bool). ((f x && letter_set es b (suc x)) || (f (suc x) && loop_set es b (suc x))) || c) (eqb-suc-zero x)
            ∙ or-false ((f x && letter_set es b (suc x)) || (f (suc x) && loop_set es b (suc x)))

  rise-words : (n : ℕ) → n ≤ depth s → (D : List ℕ) (f : ℕ → Bool) → Holds m W D f → Holds m W (rise_words M n D) (risen s F n f)
  rise-words zero l D f H = propagate_is D f H 0 l
  rise-words (suc n) l D f H =
      let P = propagate_by M (suc n) D in
      let g = propagated s F (suc n) f in
      rise-words n (omega arith) (gather_by M n P) (gathered s F n g) (gather_is P g (propagate_is D f H (suc n) l) n l)

  fall-words : (n k : ℕ) → n + k ≤ depth s → (D : List ℕ) (f : ℕ → Bool) → Holds m W D f → Holds m W (fall_words M n k D) (fallen s F n k f)
  fall-words zero k l D f H = H
  fall-words (suc n) k l D f H =
      let S = scatter_by M k D in
      let g = scattered s F k f in
      fall-words n (suc k) (omega arith) (propagate_by M (suc k) S) (propagated s F (suc k) g)
      (propagate_is S g (scatter_is D f H k (omega arith)) (suc k) (omega arith))

  passes_words : (D : List ℕ) (f : ℕ → Bool) → Holds m W D f → Holds m W (pass_words M (depth s) D) (passed s F (depth s) f)
  passes_words D f H = let d = depth s in fall-words d 0 (omega arith) (rise_words M d D) (risen s F d f) (rise-words d (le_refl d) D f H)

  returns-words : (n : ℕ) → n ≤ depth s → (E D : List ℕ) (g f : ℕ → Bool) → Holds m W E g → Holds m W D f
      → Holds m W (returns_words M n E D) (returned_below s F n g f)
  returns-words zero l E D g f G H = H
  returns-words (suc k) l E D g f G H =
      returns-words k (omega arith) E (or_words D (return_words (M.back_mask k 0) (M.back_mask k 1) E)) g (λ x. f x || returned s F k g x) G (holds_or H (return_is E g G k l))

  -- TWO ROUNDS; where the back edges add nothing, the first round is all, for the passes after the passes add nothing
  pub rounds_words : (D : List ℕ) (f : ℕ → Bool) → Holds m W D f → Holds m W (close_words M (depth s) D) (closed s F f)
  rounds_words D f H =
      cond_cases (λ (l : List ℕ). Holds m W l (closed s F f)) (same_words more first) (λ h. subst (λ (l : List ℕ). Holds m W l (closed s F f)) (once (same-words more first h)) both) (λ h. both)
    where
      d : ℕ
      d = depth s

      first : List ℕ
      first = pass_words M d D

      more : List ℕ
      more = returns_words M d first first

      g : ℕ → Bool
      g = passed s F d f

      G : Holds m W first g
      G = passes_words D f H

      both : Holds m W (pass_words M d more) (closed s F f)
      both = passes_words more (returned_below s F d g g) (returns-words d (le_refl d) first first g g G G)

      once : more ≡ first → pass_words M d more ≡ first
      once e = ap (pass_words M d) e ∙ holds_one m W (pass_words M d first) first (passed s F d g) g (passes_words first g G) G (λ x l. passed_twice s F f x)

  -- ONE STEP
  pub step-words : (b : ℕ) → b < 256 → (D : List ℕ) (f : ℕ → Bool) → Holds m W D f → Holds m W (step_words M (depth s) b D) (closed s F (moved es b f))
  step-words b l D f H = rounds_words (move_by M b D) (moved es b f) (move_is D f H b l)

  -- THE RUN over the bytes read so far
  run-words : (w : List ℕ) → Bytes w → Holds m W (run_words M (depth s) w) (live_set s F w)
  run-words [] h = rounds_words M.start_mask start_set C.start
  run-words (b ∷ w) h = step-words b h.0 (run_words M (depth s) w) (live_set s F w) (run-words w h.1)

  -- THE ENDS: place p is an end exactly if the accepting state's bit of the words is set
  pub end_words : (text : List ℕ) (p : ℕ) → Bytes (feed [] (take p text))
      → T (bit (value (run_words M (depth s) (feed [] (take p text)))) (seq_end s 0)) ↔ StopsAt s text p
  end_words text p h =
      let e = (run-words (feed [] (take p text)) h).near.bits (seq_end s 0) C.whole in
      (λ t. (end_is s F text p).0 (subst T e t), λ t. subst T (sym e) ((end_is s F text p).1 t))
