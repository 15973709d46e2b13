-- THE WORDS OF WHAT IS REACHED, ENTERED AND LEFT hold those sets of document 01's states, for words that are an image.
use mathlib.Core.Path.{◌≡◌, refl, sym, ap, ap₂, ◌∙◌, subst}
use mathlib.Core.Logic.{◌⊎◌, inl, inr, ◌↔◌}
use mathlib.Core.Bool.{Bool, true, false, ◌&&◌, ◌||◌, or-false}
use mathlib.Core.List.{List}
use Prim.Native.Nat.{ℕ, suc, ◌≤◌, ◌<◌}
use native.Mathlib.Omega.{arith}
use lib.Dec.{T, eqb, eqb→eq}
use lib.ListN.{length}
use Rattle.model.specs.Answers.{ImageOf}
use Rattle.model.specs.Bits.{bit}
use Rattle.model.specs.Edges.{depth, states}
use Rattle.model.specs.Live.{Takes}
use Rattle.model.specs.Models.Run.{close_words, move_words}
use Rattle.model.specs.Models.Words.{and_words, Fit, or_words, put_bit, value}
use Rattle.model.specs.Tree.{Tree}
use Rattle.model.proofs.Ends.Run.{letter_set, loop_set}
use Rattle.model.proofs.Image.Decided.{rule_full}
use Rattle.model.proofs.Language.Arcs.{arcs}
use Rattle.model.proofs.Laws.Bool.{le_or_lt}
use Rattle.model.proofs.Words.Full.{Full}
use Rattle.model.proofs.Words.Holds.{Holds, holds_as, Near}
use Rattle.model.proofs.Words.Operations.{near_and, near_or, next, none_and_l}
use Rattle.model.proofs.Words.PassHolds.{move_holds}
use Rattle.model.proofs.Words.Put.{put-bit, put_fit, put_length}
use Rattle.model.proofs.Words.Run.{rounds_words}
use Rattle.mask.proofs.Laws.Bits.{none_bit, none_fit}
use Rattle.model.proofs.Words.RowBits.{row_past}
use Rattle.model.specs.Spelling.{Reaches}
use Rattle.model.proofs.Spelling.Moves.{entered, entered_is, left, left_is}
use Rattle.model.proofs.Spelling.Reach.{reach-set, reach_set}
use Rattle.run_edges.specs.Reach.{enter_words, EnterSays, Inside, leave_words, LeaveSays, letters_of, ReachSays, reach_words, repeats_of, unshift_words}
use Rattle.run.specs.Says.{StatesAre}
use Rattle.run.specs.Work.{masks_of, no_words}
use Rattle.run.proofs.Image.Carry.{carried}
use Rattle.run.proofs.Image.Live.{depth_is}
use Rattle.run_edges.proofs.Laws.Back.{back_bit, back_fit, back_length}

module _ (ws : List ℕ) (t : Tree) (I : ImageOf ws t) where
  F : Full t
  F = rule_full t I.is_rule

  -- a row that has a set's bits everywhere
  states_are : (xs : List ℕ) (f : ℕ → Bool) (S : ℕ → Type 0) → ((q : ℕ) → T (f q) ↔ S q) → Holds (states t) 8 xs f → StatesAre t xs S
  states_are xs f S is H = record {
    within = λ q l. (λ h. (is q).0 (subst T (H.near.bits q l) h), λ s. subst T (sym (H.near.bits q l)) ((is q).1 s));
    beyond = H.none;
  }

  -- ---- REACHED from one state
  module _ (q : ℕ) (l : q < states t) where
    abbrev one : ℕ → Bool
    one x = eqb x q

    one_holds : Holds (states t) 8 (put_bit no_words q) one
    one_holds = record {
      near = record { len = put_length no_words q; fit = put_fit no_words q (none_fit 8); bits = λ x k. bits x };
      none = λ x k. bits x ∙ far x (omega arith);
    }
      where
        bits : (x : ℕ) → bit (value (put_bit no_words q)) x ≡ eqb x q
        bits x = put-bit no_words q x (omega (arith, I.few)) (none_fit 8) ∙ ap (λ (b : Bool). b || eqb x q) (none_bit 8 x)

        far : (x : ℕ) → q < x → eqb x q ≡ false
        far x h = go (eqb x q) refl
          where
            go : (b : Bool) → eqb x q ≡ b → eqb x q ≡ false
            go true e = let z = eqb→eq x q (subst T (sym e) tt) in absurd (omega arith)
            go false e = e

    reach_row : reach_words ws q ≡ close_words (masks_of ws) (depth t) (put_bit no_words q)
    reach_row = ap (λ (n : ℕ). close_words (masks_of ws) n (put_bit no_words q)) (depth_is ws t I)

    reach_is : StatesAre t (reach_words ws q) (Reaches t q)
    reach_is =
        subst (λ (xs : List ℕ). StatesAre t xs (Reaches t q)) (sym reach_row)
        (states_are (close_words (masks_of ws) (depth t) (put_bit no_words q)) (reach_set t F q) (Reaches t q) (reach-set t F q)
        (rounds_words (states t) 8 t F (masks_of ws) (carried ws t I) (put_bit no_words q) one one_holds))

  -- ---- ENTERED AND LEFT by a byte
  module _ (b : ℕ) (byte : b < 256) (live : List ℕ) (eight : length live ≡ 8) (fit : Fit live) (inside : Inside t live) where
    abbrev D : ℕ → Bool
    D q = bit (value live) q

    abbrev L : ℕ → Bool
    L = letter_set (arcs t 0 0) b

    abbrev P : ℕ → Bool
    P = loop_set (arcs t 0 0) b

    held : Holds (states t) 8 live D
    held = record { near = record { len = eight; fit = fit; bits = λ x l. refl }; none = inside }

    none_held : Holds (states t) 8 no_words (λ x. false)
    none_held = record { near = record { len = refl; fit = none_fit 8; bits = λ x l. none_bit 8 x }; none = λ x l. none_bit 8 x }

    enter_is : StatesAre t (enter_words ws b live) (λ r. (q : ℕ) × T (D q) × Takes t b q r)
    enter_is =
        let C = carried ws t I in
        let M = move_words (letters_of ws b) (repeats_of ws b) no_words live in
        states_are M (entered t F b D) (λ r. (q : ℕ) × T (D q) × Takes t b q r) (entered_is t F b D)
        (holds_as (states t) 8 M (λ x. ((next D x && L x) || (D x && P x)) || false) (entered t F b D) (λ x. or-false (entered t F b D x))
        (move_holds C.room held (C.letters b byte) (C.loops b byte) none_held))

    -- a row's bits below 512, and none past them
    near_self : (xs : List ℕ) → length xs ≡ 8 → Fit xs → Near 512 8 xs (λ x. bit (value xs) x)
    near_self xs e f = record { len = e; fit = f; bits = λ x l. refl }

    taken : Near (states t) 8 (and_words live (letters_of ws b)) (λ x. D x && L x)
    taken = near_and (states t) 8 live (letters_of ws b) D L held.near ((carried ws t I).letters b byte).near

    stayed : Near (states t) 8 (and_words live (repeats_of ws b)) (λ x. D x && P x)
    stayed = near_and (states t) 8 live (repeats_of ws b) D P held.near ((carried ws t I).loops b byte).near

    -- the sets of what is taken, at every place
    both : (xs : List ℕ) (f : ℕ → Bool) → Holds (states t) 8 xs f → (x : ℕ) → bit (value (and_words live xs)) x ≡ (D x && f x)
    both xs f H x = go (le_or_lt (states t) x)
      where
        N : Near (states t) 8 (and_words live xs) (λ x. D x && f x)
        N = near_and (states t) 8 live xs D f held.near H.near

        go : (states t ≤ x) ⊎ (x < states t) → bit (value (and_words live xs)) x ≡ (D x && f x)
        go (inl h) = none_and_l (states t) 8 live xs D f held.near H.near inside x h ∙ sym (ap (λ (v : Bool). v && f x) (inside x h))
        go (inr h) = N.bits x h

    made : List ℕ
    made = or_words (unshift_words (and_words live (letters_of ws b))) (and_words live (repeats_of ws b))

    back : List ℕ
    back = unshift_words (and_words live (letters_of ws b))

    made_near : Near 512 8 made (λ x. bit (value (unshift_words (and_words live (letters_of ws b)))) x || bit (value (and_words live (repeats_of ws b))) x)
    unfolding made
    made_near =
        near_or (near_self (unshift_words (and_words live (letters_of ws b))) (back_length (and_words live (letters_of ws b)) ∙ taken.len) (back_fit (and_words live (letters_of ws b)) taken.fit))
        (near_self (and_words live (repeats_of ws b)) stayed.len stayed.fit)

    left_bits : (x : ℕ) → x < 512 → bit (value made) x ≡ left t F b D x
    left_bits x l =
        made_near.bits x l
        ∙ ap₂ ◌||◌ (back_bit (and_words live (letters_of ws b)) x taken.fit ∙ both (letters_of ws b) L ((carried ws t I).letters b byte) (suc x))
        (both (repeats_of ws b) P ((carried ws t I).loops b byte) x)

    left_none : (x : ℕ) → states t ≤ x → left t F b D x ≡ false
    left_none x h = ap₂ (λ (a c : Bool). (a && L (suc x)) || (c && P x)) (inside (suc x) (omega arith)) (inside x h)

    leave_held : Holds (states t) 8 made (left t F b D)
    leave_held = record {
      near = record { len = made_near.len; fit = made_near.fit; bits = λ x l. left_bits x (omega (arith, I.few)) };
      none = λ x h. go x h (le_or_lt 512 x);
    }
      where
        go : (x : ℕ) → states t ≤ x → (512 ≤ x) ⊎ (x < 512) → bit (value made) x ≡ false
        go x h (inl k) = row_past made x made_near.fit (omega (arith, made_near.len))
        go x h (inr k) = left_bits x k ∙ left_none x h

    leave_is : StatesAre t (leave_words ws b live) (λ q. (r : ℕ) × T (D r) × Takes t b q r)
    unfolding made
    leave_is = states_are made (left t F b D) (λ q. (r : ℕ) × T (D r) × Takes t b q r) (left_is t F b D) leave_held

-- WHAT `reach`, `enter` AND `leave` SAY
pub reach_says : (ws : List ℕ) (q : ℕ) (words : List ℕ) → words ≡ reach_words ws q → ReachSays ws q words
reach_says ws q words e t I l = subst (λ (xs : List ℕ). StatesAre t xs (Reaches t q)) (sym e) (reach_is ws t I q l)

pub enter_says : (ws : List ℕ) (b : ℕ) (live words : List ℕ) → b < 256 → length live ≡ 8 → Fit live → words ≡ enter_words ws b live → EnterSays ws b live words
enter_says ws b live words h l f e t I inside =
    subst (λ (xs : List ℕ). StatesAre t xs (λ r. (q : ℕ) × T (bit (value live) q) × Takes t b q r)) (sym e) (enter_is ws t I b h live l f inside)

pub leave_says : (ws : List ℕ) (b : ℕ) (set words : List ℕ) → b < 256 → length set ≡ 8 → Fit set → words ≡ leave_words ws b set → LeaveSays ws b set words
leave_says ws b set words h l f e t I inside =
    subst (λ (xs : List ℕ). StatesAre t xs (λ q. (r : ℕ) × T (bit (value set) r) × Takes t b q r)) (sym e) (leave_is ws t I b h set l f inside)
