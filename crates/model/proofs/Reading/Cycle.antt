-- THE READERS WITHOUT A BOUND: with a bound of three calls for each byte, and up to three more, each of the three readers equals its own body over
-- the three; for every body reads at least one byte, or goes down one reader, before it calls again. Proofs of code cite these equations.
use mathlib.Core.Path.{◌≡◌, refl, ap, ◌∙◌}
use mathlib.Core.Bool.{cond}
use mathlib.Core.List.{List, ◌∷◌, ◌++◌}
use Prim.Native.Nat.{ℕ, zero, suc, ◌+◌, ◌-◌, ◌*◌, ◌≤◌, ◌<◌}
use native.Mathlib.Omega.{arith}
use lib.ListN.{length, length-append}
use Rattle.model.specs.Bytes.{byte}
use Rattle.model.specs.Tree.{Alts, glue, last, more, Seq}
use Rattle.model.specs.Grammar.{grouped, IsItem, IsSeq}
use Rattle.model.specs.Models.Reader.{alts, bind, case, got, item, over, past, Read, read_alts, read_item, read_mark, read_piece, read_seq, seq}
use Rattle.model.proofs.Reading.Answers.{Holds, opens_long, past_cases, Sound, sound_holds, stopped, took}
use Rattle.model.proofs.Reading.Decides.{item_opens, seq_opens, sound_item, sound_seq}

-- the bodies, over what they call
abbrev alts_body : (List ℕ → Read Seq) → (List ℕ → Read Alts) → List ℕ → Read Alts
alts_body S A l = bind (S l) (λ s r. case (past (byte "|") r) (λ x r'. bind (A r') (λ a r''. got (more s a) r'')) (got (last s) r))

abbrev seq_body : (List ℕ → Read Seq) → (List ℕ → Read Seq) → List ℕ → Read Seq
seq_body I S l = bind (I l) (λ h r. cond (over r) (got h r) (bind (S r) (λ t r'. got (glue h t) r')))

abbrev item_body : (List ℕ → Read Alts) → List ℕ → Read Seq
item_body A l =
    case (past (byte "(") l) (λ x r. bind (A r) (λ a r'. bind (past (byte ")") r') (λ y r''. bind (read_mark r'') (λ m r'''. got (grouped a m) r''')))) (read_piece l)

-- ---- a sequence takes at least one byte, and so does an item
seq_short : (l u r : List ℕ) {s : Seq} → l ≡ u ++ r → IsSeq u s → length r < length l
seq_short l u r e d = omega (arith, ap length e, length-append u r, opens_long u (seq_opens d))

item_short : (l u r : List ℕ) {s : Seq} → l ≡ u ++ r → IsItem u s → length r < length l
item_short l u r e d = omega (arith, ap length e, length-append u r, opens_long u (item_opens d))

-- ---- a body gives the same where what it calls agrees on shorter lists
pub bind_same : {A B : Type 0} {X : List ℕ → A → Type 0} {l : List ℕ} {m : Read A} {f g : A → List ℕ → Read B}
    → Sound X l m → ((u : List ℕ) (a : A) (r : List ℕ) → l ≡ u ++ r → X u a → f a r ≡ g a r) → bind m f ≡ bind m g
bind_same (took u {a} {r} e d) h = h u a r e d
bind_same stopped h = refl

case_past_same : {B : Type 0} (x : ℕ) (r : List ℕ) {f g : Unit {0} → List ℕ → B} (b : B)
    → ((z : Unit {0}) (r' : List ℕ) → r ≡ x ∷ r' → f z r' ≡ g z r') → case (past x r) f b ≡ case (past x r) g b
case_past_same x r {f} {g} b h = past_cases (λ m. case m f b ≡ case m g b) x r (h tt) refl

alts_same : (S S' : List ℕ → Read Seq) (A A' : List ℕ → Read Alts) (l : List ℕ)
    → Sound IsSeq l (S l) → S l ≡ S' l → ((r : List ℕ) → length r < length l → A r ≡ A' r) → alts_body S A l ≡ alts_body S' A' l
alts_same S S' A A' l h e f = rw (← e)
    (bind_same h (λ u s r p d.
    case_past_same (byte "|") r (got (last s) r) (λ z r' q. rw (f r' (omega (arith, seq_short l u r p d, ap length q))))))

seq_same : (I I' : List ℕ → Read Seq) (S S' : List ℕ → Read Seq) (l : List ℕ)
    → Sound IsItem l (I l) → I l ≡ I' l → ((r : List ℕ) → length r < length l → S r ≡ S' r) → seq_body I S l ≡ seq_body I' S' l
seq_same I I' S S' l h e f = rw (← e) (bind_same h (λ u s r p d. rw (f r (item_short l u r p d))))

item_same : (A A' : List ℕ → Read Alts) (l : List ℕ) → ((r : List ℕ) → length r < length l → A r ≡ A' r) → item_body A l ≡ item_body A' l
item_same A A' l f = case_past_same (byte "(") l (read_piece l) (λ z r q. rw (f r (omega (arith, ap length q))))

-- ---- more than enough is enough
mutual
  more_alts : (n : ℕ) (l : List ℕ) → 3 * length l + 3 ≤ n → read_alts (suc n) l ≡ read_alts n l
  more_alts zero l h = absurd (omega arith)
  more_alts (suc n) l h =
      alts_same (read_seq (suc n)) (read_seq n) (read_alts (suc n)) (read_alts n) l
      (sound_seq (suc n) l) (more_seq n l (omega arith)) (λ r k. more_alts n r (omega arith))

  more_seq : (n : ℕ) (l : List ℕ) → 3 * length l + 2 ≤ n → read_seq (suc n) l ≡ read_seq n l
  more_seq zero l h = absurd (omega arith)
  more_seq (suc n) l h =
      seq_same (read_item (suc n)) (read_item n) (read_seq (suc n)) (read_seq n) l
      (sound_item (suc n) l) (more_item n l (omega arith)) (λ r k. more_seq n r (omega arith))

  more_item : (n : ℕ) (l : List ℕ) → 3 * length l + 1 ≤ n → read_item (suc n) l ≡ read_item n l
  more_item zero l h = absurd (omega arith)
  more_item (suc n) l h = item_same (read_alts (suc n)) (read_alts n) l (λ r k. more_alts n r (omega arith))

-- what no longer changes from m on is as at m
settled : {A : Type 0} (f : ℕ → A) (m : ℕ) → ((n : ℕ) → m ≤ n → f (suc n) ≡ f n) → (k n : ℕ) → m + k ≡ n → f n ≡ f m
settled f m h zero n e = let z : n ≡ m = omega arith in ap f z
settled f m h (suc k) n e = let z : n ≡ suc (m + k) = omega arith in ap f z ∙ h (m + k) (omega arith) ∙ settled f m h k (m + k) refl

enough_alts : (n : ℕ) (l : List ℕ) → 3 * length l + 3 ≤ n → read_alts n l ≡ alts l
enough_alts n l h = settled (λ k. read_alts k l) (3 * length l + 3) (λ k. more_alts k l) (n - (3 * length l + 3)) n (omega arith)

enough_seq : (n : ℕ) (l : List ℕ) → 3 * length l + 2 ≤ n → read_seq n l ≡ seq l
enough_seq n l h = settled (λ k. read_seq k l) (3 * length l + 2) (λ k. more_seq k l) (n - (3 * length l + 2)) n (omega arith)

-- THE THREE READERS, EACH BY ITS BODY
pub alts_is : (l : List ℕ) → alts l ≡ alts_body seq alts l
alts_is l =
    let n : ℕ = 3 * length l + 2 in
    let e : 3 * length l + 3 ≡ suc n = omega arith in
    ap (λ (k : ℕ). read_alts k l) e ∙ alts_same (read_seq n) seq (read_alts n) alts l (sound_seq n l) refl (λ r k. enough_alts n r (omega arith))

pub seq_is : (l : List ℕ) → seq l ≡ seq_body item seq l
seq_is l =
    let n : ℕ = 3 * length l + 1 in
    let e : 3 * length l + 2 ≡ suc n = omega arith in
    ap (λ (k : ℕ). read_seq k l) e ∙ seq_same (read_item n) item (read_seq n) seq l (sound_item n l) refl (λ r k. enough_seq n r (omega arith))

pub item_is : (l : List ℕ) → item l ≡ item_body alts l
item_is l =
    let n : ℕ = 3 * length l in
    let e : 3 * length l + 1 ≡ suc n = omega arith in
    ap (λ (k : ℕ). read_item k l) e ∙ item_same (read_alts n) alts l (λ r k. enough_alts n r (omega arith))

-- WHAT EACH LEAVES IS SHORTER
pub seq_falls : (l : List ℕ) → Holds (λ s r. length r < length l) (seq l)
seq_falls l = sound_holds (λ s r. length r < length l) (sound_seq (3 * length l + 2) l) (λ u s r e d. seq_short l u r e d)

pub item_falls : (l : List ℕ) → Holds (λ s r. length r < length l) (item l)
item_falls l = sound_holds (λ s r. length r < length l) (sound_item (3 * length l + 1) l) (λ u s r e d. item_short l u r e d)
