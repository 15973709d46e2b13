-- EACH READER STOPS WHERE NOTHING IT READS CAN FOLLOW ANY MORE: what it passed can still become what it reads, and with the next byte it can not.
use mathlib.Core.Path.{◌≡◌, refl, sym, ap, ◌∙◌}
use mathlib.Core.Bool.{Bool}
use mathlib.Core.List.{List, [], ◌∷◌, ◌++◌, append_assoc}
use Prim.Native.Nat.{ℕ, ◌+◌, ◌*◌, ◌≤◌}
use native.Mathlib.Omega.{arith}
use lib.Dec.{T}
use lib.ListN.{length, length-append}
use Rattle.model.specs.Bytes.{byte}
use Rattle.model.specs.Tree.{Seq}
use Rattle.model.specs.Grammar.{IsAlts, IsItem, IsLetter, IsNumber, IsSeq, IsSign, IsSingle}
use Rattle.model.specs.Models.Places.{anything, Becomes, closes, free, halts, Least, passed, Piece, piece, Placed, taken}
use Rattle.model.specs.Models.Reader.{alts, bad, got, item, over, Read, read_letter, read_number, read_piece, read_sign, read_single, seq}
use Rattle.model.proofs.Reading.Answers.{parted, Sound, stopped, took}
use Rattle.model.proofs.Reading.Decides.{complete_alts, complete_item, complete_seq, sound_alts, sound_item, sound_piece, sound_seq}
use Rattle.model.proofs.Reading.Firm.{Firm, firm_alts, firm_class, firm_item, firm_letter, firm_number, firm_piece, firm_seq, firm_sign, firm_single, gets, members, same_byte, stops}
use Rattle.model.proofs.Reading.Letters.{complete_letter, complete_single, sound_letter, sound_single}
use Rattle.model.proofs.Reading.Opens.{map_opens, open_letter, open_single, Opens, reads, unended}
use Rattle.model.proofs.Reading.OpensItems.{open_alts, open_item, open_number, open_piece, open_seq, open_sign}
use Rattle.model.proofs.Reading.Signs.{complete_number, complete_sign, sound_number, sound_sign}

-- ---- the law: sound, open where it stops, firm, and complete
same_front : (u v r : List ℕ) → u ++ r ≡ v ++ r → u ≡ v
same_front [] [] r e = refl
same_front [] (c ∷ v) r e = absurd (omega (arith, ap length e, length-append v r))
same_front (c ∷ u) [] r e = absurd (omega (arith, ap length e, length-append u r))
same_front (c ∷ u) (d ∷ v) r e =
    let p : c ≡ d = cc in
    let q : u ++ r ≡ v ++ r = cc in
    let t : u ≡ v = same_front u v r q in cc

module _ {A : Type 0} (R : List ℕ → Read A) {X : List ℕ → A → Type 0} {F : List ℕ → Bool} where
  placed : {l : List ℕ} {m : Read A} → ((w : List ℕ) (b : A) → X w b → (t : List ℕ) → T (F t) → R (w ++ t) ≡ got b t) → (t : List ℕ) → T (F t)
      → Sound X l m → Opens X l m → Firm R l m → Placed X F l m
  placed full t₀ h (took u {a} {r} e d) reads (gets w p f) = taken u e d only_one
    where
      only_one : (x : ℕ) (s : List ℕ) → r ≡ x ∷ s → (B : Becomes X F (u ++ (x ∷ []))) → (B.part ≡ u) × (B.what ≡ a)
      only_one x s i B = (same_front B.part u B.after (sym B.made ∙ parts ∙ ap (λ (z : List ℕ). u ++ z) next), value)
        where
          parts : (u ++ (x ∷ [])) ++ B.rest ≡ u ++ (x ∷ B.rest)
          parts = append_assoc u (x ∷ []) B.rest

          same : got a (x ∷ B.rest) ≡ got B.what B.after
          same =
              sym (f (x ∷ B.rest) (rw i same_byte)) ∙ ap (λ (z : List ℕ). R (z ++ (x ∷ B.rest))) (same_front w u r (sym p ∙ e))
              ∙ ap R (sym parts ∙ B.made) ∙ full B.part B.what B.is B.after B.follows

          next : x ∷ B.rest ≡ B.after
          next = let e = same in cc

          value : B.what ≡ a
          value = let e = same in cc
  placed full t₀ h stopped (unended u v a {r} e d) (stops w p f) = passed u e can cannot
    where
      can : Becomes X F u
      can = record { rest = v ++ t₀; part = u ++ v; after = t₀; what = a; made = sym (append_assoc u v t₀); is = d; follows = h }

      cannot : (x : ℕ) (s : List ℕ) → r ≡ x ∷ s → Becomes X F (u ++ (x ∷ [])) → ⊥
      cannot x s i B = let e = clash in let z : ◌≡◌ {A = ℕ} 0 1 = cc in omega arith
        where
          clash : bad (x ∷ B.rest) ≡ got B.what B.after
          clash =
              sym (f (x ∷ B.rest) (rw i same_byte)) ∙ ap (λ (z : List ℕ). R (z ++ (x ∷ B.rest))) (same_front w u r (sym p ∙ e))
              ∙ ap R (sym (append_assoc u (x ∷ []) B.rest) ∙ B.made) ∙ full B.part B.what B.is B.after B.follows

-- a reader that begins behind a byte c of what it reads
module _ {A : Type 0} {X : List ℕ → A → Type 0} {c : ℕ} {l : List ℕ} where
  behind_sound : {R : List ℕ → Read A} {m : Read A} → Firm R l m → Sound X (c ∷ l) m → Sound (λ u. X (c ∷ u)) l m
  behind_sound (gets w p f) (took [] {a} {r} e d) = absurd (omega (arith, ap length p, length-append w r, ap length e))
  behind_sound f (took (y ∷ u) {a} {r} e d) = let p : c ≡ y = cc in let q : l ≡ u ++ r = cc in took u {a = a} {r = r} q (rw p d)
  behind_sound f stopped = stopped

  behind_opens : {R : List ℕ → Read A} {m : Read A} → Firm R l m → Opens X (c ∷ l) m → Opens (λ u. X (c ∷ u)) l m
  behind_opens f reads = reads
  behind_opens (stops w p f) (unended [] v a {r} e d) = absurd (omega (arith, ap length p, length-append w r, ap length e))
  behind_opens f (unended (y ∷ u) v a {r} e d) = let p : c ≡ y = cc in let q : l ≡ u ++ r = cc in unended u v a q (rw p d)

-- ---- the readers
-- a single of at least lo
pub single_placed : (lo : ℕ) → lo ≤ 255 → (l : List ℕ) → Placed (Least lo IsSingle) anything l (read_single lo l)
single_placed lo h l = placed (read_single lo) (λ w b d t g. complete_single lo d.1 d.0 t) [] tt (sound_single lo l) (open_single lo h l) (firm_single lo l)

pub letter_placed : (l : List ℕ) → Placed IsLetter anything l (read_letter l)
letter_placed l = placed read_letter (λ w b d t g. complete_letter d t) [] tt (sound_letter l) (open_letter l) (firm_letter l)

-- a class, after its `[`: what the reader of letters does behind that byte
pub class_placed : (l : List ℕ) → Placed (λ u. IsLetter (byte "[" ∷ u)) anything l (members 0 l)
class_placed l =
    placed (members 0) (λ w b d t g. complete_letter d t) [] tt
    (behind_sound (firm_class l) (sound_letter (byte "[" ∷ l))) (behind_opens (firm_class l) (open_letter (byte "[" ∷ l))) (firm_class l)

-- a number of at least m
pub number_placed : (m : ℕ) → m ≤ 999 → (l : List ℕ) → Placed (Least m IsNumber) halts l (read_number m l)
number_placed m h l =
    placed (read_number m) (λ w b d t g. complete_number m d.1 d.0 t g) [] tt (sound_number m l)
    (map_opens (open_number m h l) (λ u v a r e d. unended u v a e (d.0, omega (arith, d.1)))) (firm_number m l)

-- a repeat sign, or none
pub sign_placed : (l : List ℕ) → Placed IsSign free l (read_sign l)
sign_placed l = placed read_sign (λ w b d t g. complete_sign d t g) [] tt (sound_sign l) (open_sign l) (firm_sign l)

pub piece_placed : (l : List ℕ) → Placed Piece free l (read_piece l)
piece_placed l = placed read_piece full [] tt (sound_piece l) (open_piece l) (firm_piece l)
  where
    full : (w : List ℕ) (s : Seq) → Piece w s → (t : List ℕ) → T (free t) → read_piece (w ++ t) ≡ got s t
    full w s (piece {u} {v} p e d b) t g = rw (parted w u v t p, complete_letter d (v ++ t), complete_sign b t g, e)

pub item_placed : (l : List ℕ) → Placed IsItem free l (item l)
item_placed l =
    placed item (λ w b d t g. complete_item d (3 * length (w ++ t) + 1) t g (omega arith)) [] tt
    (sound_item (3 * length l + 1) l) (open_item (3 * length l + 1) l (omega arith)) (firm_item l)

pub sequence_placed : (l : List ℕ) → Placed IsSeq over l (seq l)
sequence_placed l =
    placed seq (λ w b d t g. complete_seq d (3 * length (w ++ t) + 2) t g (omega arith)) [] tt
    (sound_seq (3 * length l + 2) l) (open_seq (3 * length l + 2) l (omega arith)) (firm_seq l)

-- alternatives, before bytes that may close them: in brackets, and of a whole rule
pub alternatives_before : (F : List ℕ → Bool) → ((t : List ℕ) → T (F t) → T (closes t)) → T (F []) → (l : List ℕ) → Placed IsAlts F l (alts l)
alternatives_before F close none l =
    placed alts (λ w b d t g. complete_alts d (3 * length (w ++ t) + 3) t (close t g) (omega arith)) [] none
    (sound_alts (3 * length l + 3) l) (open_alts (3 * length l + 3) l (omega arith)) (firm_alts l)

pub alternatives_placed : (l : List ℕ) → Placed IsAlts closes l (alts l)
alternatives_placed = alternatives_before closes (λ t g. g) tt
