-- THE LOOP OVER A STRETCH, on masks of any number of words: from where a loop begins, what was noted and what is still to come is the whole list, and the
-- live words run on to those at its end, turn by turn. And a whole text is a beginning and one stretch.
use Rattle.std.proofs.Common.{◌≡◌, ℕ, suc, ◌+◌, ◌%◌, ◌^◌, ◌<◌, ◌≤◌, Bool, true, false, List, [], ◌∷◌, ◌++◌, length, get_or, take, drop, sym, refl, ap, ◌∙◌, ap₂, add-zero, arith, length-append, drop_of_length-le, drop-cons}
use lib.Seq.{length-sets, sets}
use Rattle.model.specs.Bits.{bit}
use Rattle.model.specs.Models.Run.{close_words, ends_after, ends_with, Masks, move_by, noted, run_from, step_words}
use Rattle.model.specs.Models.Words.{value}
use Rattle.model.proofs.Laws.Stores.{sets_append}
use Rattle.run_word.specs.Ends.{Noted, RanOver}
use Rattle.run_word.specs.Stretch.{Closes}

pub noted_few : (b : Bool) (p : ℕ) → length (noted b p) ≤ 1
noted_few true p = omega arith
noted_few false p = omega arith

-- the move by a byte, and what a loop's own part of a step does
pub stepped : (M : Masks) (d : ℕ) {leads : ℕ → ℕ → Type 0} → Closes M d leads → (b : ℕ) (live : List ℕ) {on r : ℕ} → on < 2 ^ 64 → leads on r → on ∷ [] ≡ move_by M b live
    → r ∷ [] ≡ step_words M d b live
stepped M d C b live {on} {r} h l e = C on r h l ∙ ap (close_words M d) e

module _ (M : Masks) (d last place : ℕ) (stretch : List ℕ) where
  abbrev to_come : ℕ → List ℕ → List ℕ
  to_come p live = ends_after M d last (place + p) live (drop p stretch)

  -- p bytes are done; in the end the total will be `all`, what was lent `lent` and the words `final`
  pub record At (size all : ℕ) (lent final places live : List ℕ) (total p : ℕ) : Type 0 where
    pub within : p ≤ length stretch
    pub few : total ≤ p + 1
    pub long : length places ≡ size
    pub counted : total + length (to_come p live) ≡ all
    pub stored : sets places total (to_come p live) ≡ lent
    pub runs : run_from M d live (drop p stretch) ≡ final

  abbrev pub Since : (places₀ live₀ : List ℕ) (total₀ p₀ : ℕ) (places live : List ℕ) (total p : ℕ) → Type 0
  Since places₀ live₀ total₀ p₀ =
      At (length places₀) (total₀ + length (to_come p₀ live₀)) (sets places₀ total₀ (to_come p₀ live₀)) (run_from M d live₀ (drop p₀ stretch))

  pub since_now : (places live : List ℕ) (total p : ℕ) → p ≤ length stretch → total ≤ p + 1 → Since places live total p places live total p
  since_now places live total p h l = record { within = h; few = l; long = refl; counted = refl; stored = refl; runs = refl }

  pub since_then : {size all total total' p p' : ℕ} {lent final places live places' live' : List ℕ} → At size all lent final places live total p
      → Since places live total p places' live' total' p' → At size all lent final places' live' total' p'
  since_then N S = record {
    within = S.within;
    few = S.few;
    long = S.long ∙ N.long;
    counted = S.counted ∙ N.counted;
    stored = S.stored ∙ N.stored;
    runs = S.runs ∙ N.runs;
  }

  -- on by a byte, and the place after it noted
  pub at_next : length stretch ≤ 65535 → {size all total count p : ℕ} {lent final places live new : List ℕ} (live' : List ℕ) → At size all lent final places live total p
      → p < length stretch → live' ≡ step_words M d (get_or stretch p 0) live → (hit : Bool) → hit ≡ bit (value live') last
      → count ≡ (total + length (noted hit (place + (p + 1)))) % 2 ^ 64 → new ≡ sets places total (noted hit (place + (p + 1))) → At size all lent final new live' count (p + 1)
  at_next small {total = total} {count} {p} {places = places} {live} {new} live' A l e hit looked counts writes = record {
    within = omega arith;
    few = omega (arith, A.few, count', noted_few h n);
    long = ap length write' ∙ length-sets places total (noted h n) ∙ A.long;
    counted = omega (arith, A.counted, count', ap length split, length-append (noted h n) rest);
    stored = ap₂ (λ (x : List ℕ) (k : ℕ). sets x k rest) write' count' ∙ sym (sets_append places total (noted h n) rest) ∙ ap (sets places total) (sym split) ∙ A.stored;
    runs = ap₂ (λ (x : List ℕ) (k : ℕ). run_from M d x (drop k stretch)) e one ∙ sym (ap (run_from M d live) (drop-cons stretch p 0 l)) ∙ A.runs;
  }
    where
      h : Bool
      h = bit (value live') last

      n : ℕ
      n = place + (p + 1)

      one : p + 1 ≡ suc p
      one = omega arith

      rest : List ℕ
      rest = to_come (p + 1) live'

      split : to_come p live ≡ noted h n ++ rest
      split =
          ap (ends_after M d last (place + p) live) (drop-cons stretch p 0 l)
          ∙ ap (λ (x : List ℕ). noted (bit (value x) last) (place + p + 1) ++ ends_after M d last (place + p + 1) x (drop (suc p) stretch)) (sym e)
          ∙ ap₂ (λ (k j : ℕ). noted h k ++ ends_after M d last k live' (drop j stretch)) (let q : place + p + 1 ≡ place + (p + 1) = omega arith in q) (sym one)

      count' : count ≡ total + length (noted h n)
      count' =
          counts ∙ (let q : (total + length (noted hit n)) % 2 ^ 64 ≡ total + length (noted hit n) = omega (arith, noted_few hit n, A.few, A.within) in q)
          ∙ ap (λ (b : Bool). total + length (noted b n)) looked

      write' : new ≡ sets places total (noted h n)
      write' = writes ∙ ap (λ (b : Bool). sets places total (noted b n)) looked

  -- the last byte, of a loop that began with the first
  pub at_end : (W found : ℕ) (before first words : List ℕ) {total p : ℕ} {places : List ℕ} → Since before first found 0 places (take W words) total p → length stretch ≤ p
      → RanOver M W d last place found stretch first before words total places
  at_end W found before first words {total} {p} {places} A l =
      let live = take W words in
      let rest = drop_of_length-le stretch l in
      let none : to_come p live ≡ [] = ap (ends_after M d last (place + p) live) rest in
      let whole : to_come 0 first ≡ ends_after M d last place first stretch = ap (λ (n : ℕ). ends_after M d last n first stretch) (add-zero place) in
      record {
        counted = omega (arith, A.counted, ap length none, ap length whole);
        stored = sym (ap (sets places total) none) ∙ A.stored ∙ ap (sets before found) whole;
        runs = sym (ap (run_from M d live) rest) ∙ A.runs;
      }

-- ---- A BEGINNING AND ONE STRETCH: place 0 noted, and then the places after it
pub begun : (M : Masks) (W d last : ℕ) (text live before : List ℕ) → live ≡ close_words M d M.start_mask → (hit : Bool) → hit ≡ bit (value live) last → {count total : ℕ} {places words after : List ℕ}
    → count ≡ (0 + length (noted hit 0)) % 2 ^ 64 → places ≡ sets before 0 (noted hit 0) → RanOver M W d last 0 count text live places words total after
    → Noted (ends_with M d last text) before total after
begun M W d last text live before e hit looked {count} {total} {places} {words} {after} counts writes G = record {
  counted = omega (arith, G.counted, count', ap length whole, length-append (noted hit 0) rest);
  stored = G.stored ∙ ap₂ (λ (l : List ℕ) (n : ℕ). sets l n rest) writes count' ∙ sym (sets_append before 0 (noted hit 0) rest) ∙ ap (sets before 0) (sym whole);
}
  where
    rest : List ℕ
    rest = ends_after M d last 0 live text

    count' : count ≡ 0 + length (noted hit 0)
    count' = omega (arith, counts, noted_few hit 0)

    whole : ends_with M d last text ≡ noted hit 0 ++ rest
    whole =
        ap (λ (w : List ℕ). noted (bit (value w) last) 0 ++ ends_after M d last 0 w text) (sym e)
        ∙ ap (λ (b : Bool). noted b 0 ++ rest) (sym looked)
