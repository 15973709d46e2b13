-- A READER LOOKS AT NOTHING PAST THE BYTE AT WHICH IT STOPS: whatever came after that byte instead, it would read the same and stop at the same byte.
use mathlib.Core.Path.{◌≡◌, refl, ap, ◌∙◌, subst}
use mathlib.Core.Bool.{Bool, true, false, cond, ◌&&◌}
use mathlib.Core.List.{List, [], ◌∷◌, ◌++◌, append_assoc}
use Prim.Native.Nat.{ℕ, zero, suc, ◌+◌, ◌-◌, ◌*◌, ◌≤◌, ◌<◌, ◌^◌, max}
use native.Mathlib.Omega.{arith}
use lib.Dec.{T, eqb, eqb→eq, leb}
use lib.Bits.{bit_or}
use lib.ListN.{length, length-append}
use Rattle.model.specs.Lists.{within}
use Rattle.model.specs.Bytes.{byte, bytes, digital, hexadecimal, plain, signs}
use Rattle.model.specs.Tree.{glue, last, more, once, option, plus, Seq, star}
use Rattle.model.specs.Grammar.{bare, dot_class, grouped, IsMember, plainly, repeated, span, times}
use Rattle.model.specs.Models.Reader.{alts, bad, bind, case, close, got, hex_value, item, over, past, reach, Read, read_bounds, read_braces, read_digits, read_escape, read_hex, read_hexes, read_letter, read_mark, read_member, read_members, read_number, read_piece, read_sign, read_single, seq, stop}
use Rattle.model.proofs.Reading.Answers.{opens_long, Sound, stopped, took}
use Rattle.model.proofs.Reading.Cycle.{alts_is, bind_same, item_is, seq_is}
use Rattle.model.proofs.Reading.Decides.{item_opens, sound_item, sound_seq}
use Rattle.model.proofs.Reading.Letters.{inside_long, member_inside, sound_member}

-- two texts that begin with the same byte, or are both empty
pub data Alike : List ℕ → List ℕ → Type 0 where
  ended : Alike [] []
  same_byte : {x : ℕ} {r s : List ℕ} → Alike (x ∷ r) (x ∷ s)

alike_after : (u : List ℕ) {s t : List ℕ} → Alike s t → Alike (u ++ s) (u ++ t)
alike_after [] k = k
alike_after (c ∷ u) k = same_byte

-- R, which was given l, took u of it, and would take u whatever comes after the byte at which it stopped
pub data Firm {A : Type 0} (R : List ℕ → Read A) (l : List ℕ) : Read A → Type 0 where
  gets : (u : List ℕ) {a : A} {s : List ℕ} → l ≡ u ++ s → ((t : List ℕ) → Alike s t → R (u ++ t) ≡ got a t) → Firm R l (got a s)
  stops : (u : List ℕ) {s : List ℕ} → l ≡ u ++ s → ((t : List ℕ) → Alike s t → R (u ++ t) ≡ bad t) → Firm R l (bad s)

-- ---- each way to go on
module _ {A : Type 0} where
  firm_as : {R Q : List ℕ → Read A} {l : List ℕ} {m : Read A} → ((k : List ℕ) → R k ≡ Q k) → Firm Q l m → Firm R l m
  firm_as e (gets u p f) = gets u p (λ t k. e (u ++ t) ∙ f t k)
  firm_as e (stops u p f) = stops u p (λ t k. e (u ++ t) ∙ f t k)

  -- at the end of the text only the end counts
  firm_nil : {R Q : List ℕ → Read A} {m : Read A} → R [] ≡ Q [] → Firm Q [] m → Firm R [] m
  firm_nil {R} {Q} e h = go h
    where
      only_nil : {r t : List ℕ} → [] ≡ r → Alike r t → R t ≡ Q t
      only_nil p ended = e
      only_nil p same_byte = let z : ◌≡◌ {A = ℕ} 0 1 = cc in absurd (omega arith)

      go : {m : Read A} → Firm Q [] m → Firm R [] m
      go (gets u {a} p f) = gets u {a = a} p (λ t k. only_nil p (alike_after u k) ∙ f t k)
      go (stops u p f) = stops u p (λ t k. only_nil p (alike_after u k) ∙ f t k)

  firm_got : (a : A) (l : List ℕ) → Firm (got a) l (got a l)
  firm_got a l = gets [] refl (λ t k. refl)

  firm_bad : (l : List ℕ) → Firm {A = A} bad l (bad l)
  firm_bad l = stops [] refl (λ t k. refl)

  firm_cond : (b : Bool) {M N : List ℕ → Read A} {l : List ℕ} → Firm M l (M l) → Firm N l (N l) → Firm (λ s. cond b (M s) (N s)) l (cond b (M l) (N l))
  firm_cond true h k = h
  firm_cond false h k = k

module _ {A B : Type 0} {l : List ℕ} where
  onward : (R : List ℕ → Read A) (Q : A → List ℕ → Read B) (u s : List ℕ) {a : A} {m : Read B}
      → l ≡ u ++ s → ((t : List ℕ) → Alike s t → R (u ++ t) ≡ got a t) → Firm (Q a) s m → Firm (λ k. bind (R k) Q) l m
  onward R Q u s e f (gets w {a = b} {s = r} p g) =
      gets (u ++ w) {a = b} {s = r} (cc (append_assoc u w r)) (λ t k. rw (append_assoc u w t, f (w ++ t) (rw p (alike_after w k))) (g t k))
  onward R Q u s e f (stops w {s = r} p g) =
      stops (u ++ w) {s = r} (cc (append_assoc u w r)) (λ t k. rw (append_assoc u w t, f (w ++ t) (rw p (alike_after w k))) (g t k))

  firm_bind : {R : List ℕ → Read A} {Q : A → List ℕ → Read B} {m : Read A}
      → Firm R l m → ((a : A) (s : List ℕ) → Firm (Q a) s (Q a s)) → Firm (λ k. bind (R k) Q) l (bind m Q)
  firm_bind {R} {Q} (gets u {a} {s} e f) g = onward R Q u s e f (g a s)
  firm_bind (stops u e f) g = stops u e (λ t k. rw (f t k))

  -- where what was read is known
  firm_then : {R : List ℕ → Read A} {Q : A → List ℕ → Read B} {X : List ℕ → A → Type 0} {m : Read A} → Sound X l m → Firm R l m
      → ((u : List ℕ) (a : A) (s : List ℕ) → l ≡ u ++ s → X u a → Firm (Q a) s (Q a s)) → Firm (λ k. bind (R k) Q) l (bind m Q)
  firm_then {R} {Q} (took v p d) (gets u {a} {s} e f) g = onward R Q u s e f (g v a s p d)
  firm_then stopped (stops u e f) g = stops u e (λ t k. rw (f t k))

-- ---- after a first byte x: the reader goes on behind it, or it stops there
data Beyond {A : Type 0} (x : ℕ) (G : List ℕ → Read A) (xs : List ℕ) : Read A → Type 0 where
  on : {m : Read A} → Firm G xs m → Beyond x G xs m
  got_at : {a : A} → ((s : List ℕ) → G s ≡ got a (x ∷ s)) → Beyond x G xs (got a (x ∷ xs))
  bad_at : ((s : List ℕ) → G s ≡ bad (x ∷ s)) → Beyond x G xs (bad (x ∷ xs))

module _ {A : Type 0} where
  beyond_cond : {x : ℕ} (b : Bool) {M N : List ℕ → Read A} {xs : List ℕ} → Beyond x M xs (M xs) → Beyond x N xs (N xs)
      → Beyond x (λ s. cond b (M s) (N s)) xs (cond b (M xs) (N xs))
  beyond_cond true h k = h
  beyond_cond false h k = k

  here_got : {x : ℕ} {xs : List ℕ} (a : A) → Beyond x (λ s. got a (x ∷ s)) xs (got a (x ∷ xs))
  here_got a = got_at (λ s. refl)

  here_bad : {x : ℕ} {xs : List ℕ} → Beyond {A = A} x (λ s. bad (x ∷ s)) xs (bad (x ∷ xs))
  here_bad = bad_at (λ s. refl)

  beyond_firm : {R : List ℕ → Read A} {x : ℕ} {xs : List ℕ} {m : Read A} → Beyond x (λ s. R (x ∷ s)) xs m → Firm R (x ∷ xs) m
  beyond_firm {x = x} (on (gets u e f)) = gets (x ∷ u) (ap (λ (z : List ℕ). x ∷ z) e) f
  beyond_firm {x = x} (on (stops u e f)) = stops (x ∷ u) (ap (λ (z : List ℕ). x ∷ z) e) f
  beyond_firm {R} {x} {xs} (got_at {a} f) = gets [] refl at
    where
      at : (t : List ℕ) → Alike (x ∷ xs) t → R t ≡ got a t
      at [] h = elim h [ ]
      at (y ∷ t) same_byte = f t
  beyond_firm {R} {x} {xs} (bad_at f) = stops [] refl at
    where
      at : (t : List ℕ) → Alike (x ∷ xs) t → R t ≡ bad t
      at [] h = elim h [ ]
      at (y ∷ t) same_byte = f t

  -- a reader by what it does at the end, as Q does, and by what it does with a first byte
  firm_by : (R Q : List ℕ → Read A) → R [] ≡ Q [] → Firm Q [] (Q [])
      → ((x : ℕ) (xs : List ℕ) → Beyond x (λ s. R (x ∷ s)) xs (R (x ∷ xs))) → (l : List ℕ) → Firm R l (R l)
  firm_by R Q e h k [] = rw e (firm_nil e h)
  firm_by R Q e h k (x ∷ xs) = beyond_firm (k x xs)

  -- and back: what stops there, or goes on behind it
  firm_beyond : (R : List ℕ → Read A) (x : ℕ) (xs : List ℕ) {m : Read A} → Firm R (x ∷ xs) m → Beyond x (λ s. R (x ∷ s)) xs m
  firm_beyond R x xs (gets [] {a} e f) = subst (λ (s : List ℕ). Beyond x (λ t. R (x ∷ t)) xs (got a s)) e (got_at (λ s. f (x ∷ s) (rw (← e) same_byte)))
  firm_beyond R x xs (gets (c ∷ u) {a} {s} e f) =
      let p : x ≡ c = cc in let q : xs ≡ u ++ s = cc in on (gets u {a = a} {s = s} q (λ t k. rw p (f t k)))
  firm_beyond R x xs (stops [] e f) = subst (λ (s : List ℕ). Beyond x (λ t. R (x ∷ t)) xs (bad s)) e (bad_at (λ s. f (x ∷ s) (rw (← e) same_byte)))
  firm_beyond R x xs (stops (c ∷ u) {s} e f) =
      let p : x ≡ c = cc in let q : xs ≡ u ++ s = cc in on (stops u {s = s} q (λ t k. rw p (f t k)))

  -- the byte y, and then M; or N
  firm_past : (y : ℕ) (M : Unit {0} → List ℕ → Read A) (N : List ℕ → Read A) (l : List ℕ)
      → ((s : List ℕ) → l ≡ y ∷ s → Firm (M tt) s (M tt s)) → Firm N l (N l) → Firm (λ k. case (past y k) M (N k)) l (case (past y l) M (N l))
  firm_past y M N [] f h = firm_nil refl h
  firm_past y M N (x ∷ xs) f h = beyond_firm (go (eqb x y) (eqb→eq x y))
    where
      go : (b : Bool) → (T b → x ≡ y)
          → Beyond x (λ s. case (cond b (got tt s) (bad (x ∷ s))) M (N (x ∷ s))) xs (case (cond b (got tt xs) (bad (x ∷ xs))) M (N (x ∷ xs)))
      go true e = on (f xs (ap (λ (z : ℕ). z ∷ xs) (e tt)))
      go false e = firm_beyond N x xs h

-- the byte y, and then M
firm_pass : {A : Type 0} (y : ℕ) (M : Unit {0} → List ℕ → Read A) (l : List ℕ)
    → ((s : List ℕ) → Firm (M tt) s (M tt s)) → Firm (λ k. bind (past y k) M) l (bind (past y l) M)
firm_pass y M l f = firm_bind (firm_by (past y) bad refl (firm_bad []) (λ x xs. beyond_cond (eqb x y) (on (firm_got tt xs)) here_bad) l) (λ z s. f s)

-- ---- escapes and singles
firm_hex : (lo h : ℕ) (l : List ℕ) → Firm (read_hex lo h) l (read_hex lo h l)
firm_hex lo h = firm_by (read_hex lo h) bad refl (firm_bad []) (λ x xs.
    beyond_cond (hexadecimal x && leb lo (16 * h + hex_value x)) (on (firm_got (16 * h + hex_value x) xs)) here_bad)

firm_hexes : (lo : ℕ) (l : List ℕ) → Firm (read_hexes lo) l (read_hexes lo l)
firm_hexes lo = firm_by (read_hexes lo) bad refl (firm_bad []) (λ x xs.
    beyond_cond (hexadecimal x && leb lo (16 * hex_value x + 15)) (on (firm_hex lo (hex_value x) xs)) here_bad)

firm_escape : (lo : ℕ) (l : List ℕ) → Firm (read_escape lo) l (read_escape lo l)
firm_escape lo = firm_by (read_escape lo) bad refl (firm_bad []) (λ x xs.
    beyond_cond (within x (byte "-" ∷ signs)) (beyond_cond (leb lo x) (on (firm_got x xs)) here_bad)
    (beyond_cond (eqb x (byte "x")) (on (firm_hexes lo xs)) here_bad))

pub firm_single : (lo : ℕ) (l : List ℕ) → Firm (read_single lo) l (read_single lo l)
firm_single lo = firm_by (read_single lo) bad refl (firm_bad []) (λ x xs.
    beyond_cond (bare x) (beyond_cond (leb lo x) (on (firm_got x xs)) here_bad)
    (beyond_cond (eqb x (byte "\\")) (on (firm_escape lo xs)) here_bad))

-- ---- classes
firm_member : (l : List ℕ) → Firm read_member l (read_member l)
firm_member l =
    firm_bind (firm_single 0 l) (λ lo r.
    firm_past (byte "-") (λ z r'. bind (read_single lo r') (λ hi r''. got (span lo hi) r'')) (got (span lo lo)) r
    (λ r' e. firm_bind (firm_single lo r') (λ hi r''. firm_got (span lo hi) r'')) (firm_got (span lo lo) r))

shorter : (n : ℕ) (l u r : List ℕ) {d : ℕ} → l ≡ u ++ r → IsMember u d → length l < suc n → length r < n
shorter n l u r e m h = omega (arith, ap length e, length-append u r, inside_long u (member_inside m))

-- with more than as many members as there are bytes the number of members does not count
members_same : (n k c : ℕ) (l : List ℕ) → length l < n → length l < k → read_members n c l ≡ read_members k c l
members_same zero k c l g h = absurd (omega arith)
members_same (suc n) zero c l g h = absurd (omega arith)
members_same (suc n) (suc k) c l g h =
    bind_same (sound_member l) (λ u d r e m. rw (members_same n k (bit_or c d) r (shorter n l u r e m g) (shorter k l u r e m h)))

abbrev pub members : ℕ → List ℕ → Read ℕ
members c l = read_members (suc (length l)) c l

abbrev members_body : ℕ → List ℕ → Read ℕ
members_body c l = bind (read_member l) (λ d r. case (past (byte "]") r) (λ x r'. got (bit_or c d) r') (members (bit_or c d) r))

members_is : (c : ℕ) (l : List ℕ) → members c l ≡ members_body c l
members_is c l = bind_same (sound_member l) (λ u d r e m.
    rw (members_same (length l) (suc (length r)) (bit_or c d) r (shorter (length l) l u r e m (omega arith)) (omega arith)))

firm_members : (n c : ℕ) (l : List ℕ) → length l < n → Firm (members c) l (members c l)
firm_members zero c l h = absurd (omega arith)
firm_members (suc n) c l h =
    rw (members_is c l) (firm_as (members_is c)
    (firm_then (sound_member l) (firm_member l) (λ u d r e m.
    firm_past (byte "]") (λ x r'. got (bit_or c d) r') (members (bit_or c d)) r (λ r' p. firm_got (bit_or c d) r')
    (firm_members n (bit_or c d) r (shorter n l u r e m h)))))

pub firm_class : (l : List ℕ) → Firm (members 0) l (members 0 l)
firm_class l = firm_members (suc (length l)) 0 l (omega arith)

pub firm_letter : (l : List ℕ) → Firm read_letter l (read_letter l)
firm_letter = firm_by read_letter bad refl (firm_bad []) (λ x xs.
    beyond_cond (plain x) (on (firm_got (2 ^ x) xs))
    (beyond_cond (eqb x (byte ".")) (on (firm_got dot_class xs))
    (beyond_cond (eqb x (byte "[")) (on (firm_class xs))
    (beyond_cond (eqb x (byte "\\")) (on (firm_bind (firm_escape 0 xs) (λ b r. firm_got (2 ^ b) r))) here_bad))))

-- ---- repeat signs
firm_stop : (m v : ℕ) (l : List ℕ) → Firm (stop m v) l (stop m v l)
firm_stop m v l = firm_cond (leb m v) (firm_got v l) (firm_bad l)

firm_digits : (k m v : ℕ) (l : List ℕ) → Firm (read_digits k m v) l (read_digits k m v l)
firm_digits zero m v l = firm_stop m v l
firm_digits (suc k) m v l = firm_by (read_digits (suc k) m v) (stop m v) refl (firm_stop m v []) (λ x xs.
    beyond_cond (digital x)
    (beyond_cond (leb m (reach k (10 * v + (x - byte "0")))) (on (firm_digits k m (10 * v + (x - byte "0")) xs)) here_bad)
    (beyond_cond (leb m v) (here_got v) here_bad)) l

pub firm_number : (m : ℕ) (l : List ℕ) → Firm (read_number m) l (read_number m l)
firm_number m = firm_by (read_number m) bad refl (firm_bad []) (λ x xs.
    beyond_cond (digital x)
    (beyond_cond (eqb x (byte "0")) (beyond_cond (leb m 0) (on (firm_got 0 xs)) here_bad)
    (beyond_cond (leb m (reach 2 (x - byte "0"))) (on (firm_digits 2 m (x - byte "0") xs)) here_bad))
    here_bad)

firm_bounds : (l : List ℕ) → Firm read_bounds l (read_bounds l)
firm_bounds l =
    firm_past (byte ",") (λ z r. bind (read_number 1 r) (λ y r'. got (0, y) r'))
    (λ k. bind (read_number 0 k) (λ x r. case (past (byte ",") r) (λ z r'. bind (read_number (max x 1) r') (λ y r''. got (x, y) r'')) (got (x, x) r))) l
    (λ r e. firm_bind (firm_number 1 r) (λ y r'. firm_got (0, y) r'))
    (firm_bind (firm_number 0 l) (λ x r.
    firm_past (byte ",") (λ z r'. bind (read_number (max x 1) r') (λ y r''. got (x, y) r'')) (got (x, x)) r
    (λ r' e. firm_bind (firm_number (max x 1) r') (λ y r''. firm_got (x, y) r'')) (firm_got (x, x) r)))

firm_close : (b : ℕ × ℕ) (r : List ℕ) → Firm (close b) r (close b r)
firm_close b r = firm_cond (leb 1 b.1) (firm_pass (byte "}") (λ z r'. got (times b.0 b.1) r') r (λ r'. firm_got (times b.0 b.1) r')) (firm_bad r)

firm_braces : (l : List ℕ) → Firm read_braces l (read_braces l)
firm_braces l = firm_bind (firm_bounds l) (λ b r. firm_close b r)

pub firm_sign : (l : List ℕ) → Firm read_sign l (read_sign l)
firm_sign = firm_by read_sign (got (plainly once)) refl (firm_got (plainly once) []) (λ x xs.
    beyond_cond (eqb x (byte "?")) (on (firm_got (plainly option) xs))
    (beyond_cond (eqb x (byte "*")) (on (firm_got (plainly star) xs))
    (beyond_cond (eqb x (byte "+")) (on (firm_got (plainly plus) xs))
    (beyond_cond (eqb x (byte "{")) (on (firm_braces xs)) (here_got (plainly once))))))

firm_mark : (l : List ℕ) → Firm read_mark l (read_mark l)
firm_mark = firm_by read_mark (got once) refl (firm_got once []) (λ x xs.
    beyond_cond (eqb x (byte "?")) (on (firm_got option xs))
    (beyond_cond (eqb x (byte "*")) (on (firm_got star xs))
    (beyond_cond (eqb x (byte "+")) (on (firm_got plus xs)) (here_got once))))

-- ---- items, sequences, alternatives
pub firm_piece : (l : List ℕ) → Firm read_piece l (read_piece l)
firm_piece l = firm_bind (firm_letter l) (λ c r. firm_bind (firm_sign r) (λ q r'. firm_got (repeated c q) r'))

mutual
  firm_alts_by : (n : ℕ) (l : List ℕ) → 3 * length l + 3 ≤ n → Firm alts l (alts l)
  firm_alts_by zero l h = absurd (omega arith)
  firm_alts_by (suc n) l h =
      rw (alts_is l) (firm_as alts_is
      (firm_then (sound_seq (3 * length l + 2) l) (firm_seq_by n l (omega arith)) (λ u s r e d.
      firm_past (byte "|") (λ z r'. bind (alts r') (λ a r''. got (more s a) r'')) (got (last s)) r
      (λ r' p. firm_bind (firm_alts_by n r' (omega (arith, ap length e, length-append u r, ap length p))) (λ a r''. firm_got (more s a) r''))
      (firm_got (last s) r))))

  firm_seq_by : (n : ℕ) (l : List ℕ) → 3 * length l + 2 ≤ n → Firm seq l (seq l)
  firm_seq_by zero l h = absurd (omega arith)
  firm_seq_by (suc n) l h =
      rw (seq_is l) (firm_as seq_is
      (firm_then (sound_item (3 * length l + 1) l) (firm_item_by n l (omega arith)) (λ u i r e d.
      rest i r (firm_bind (firm_seq_by n r (omega (arith, ap length e, length-append u r, opens_long u (item_opens d)))) (λ t r'. firm_got (glue i t) r')))))
    where
      -- whether a sequence is over is seen by the next byte
      rest : (i : Seq) (r : List ℕ) → Firm (λ k. bind (seq k) (λ t r'. got (glue i t) r')) r (bind (seq r) (λ t r'. got (glue i t) r'))
          → Firm (λ k. cond (over k) (got i k) (bind (seq k) (λ t r'. got (glue i t) r'))) r (cond (over r) (got i r) (bind (seq r) (λ t r'. got (glue i t) r')))
      rest i [] g = firm_nil {Q = got i} refl (firm_got i [])
      rest i (x ∷ xs) g = beyond_firm (beyond_cond (within x (bytes "|)")) (here_got i) (firm_beyond (λ k. bind (seq k) (λ t r'. got (glue i t) r')) x xs g))

  firm_item_by : (n : ℕ) (l : List ℕ) → 3 * length l + 1 ≤ n → Firm item l (item l)
  firm_item_by zero l h = absurd (omega arith)
  firm_item_by (suc n) l h =
      rw (item_is l) (firm_as item_is
      (firm_past (byte "(") (λ z r. bind (alts r) (λ a r'. bind (past (byte ")") r') (λ y r''. bind (read_mark r'') (λ m r'''. got (grouped a m) r''')))) read_piece l
      (λ r p. firm_bind (firm_alts_by n r (omega (arith, ap length p))) (λ a r'.
      firm_pass (byte ")") (λ y r''. bind (read_mark r'') (λ m r'''. got (grouped a m) r''')) r' (λ r''. firm_bind (firm_mark r'') (λ m r'''. firm_got (grouped a m) r'''))))
      (firm_piece l)))

pub firm_alts : (l : List ℕ) → Firm alts l (alts l)
firm_alts l = firm_alts_by (3 * length l + 3) l (omega arith)

pub firm_seq : (l : List ℕ) → Firm seq l (seq l)
firm_seq l = firm_seq_by (3 * length l + 2) l (omega arith)

pub firm_item : (l : List ℕ) → Firm item l (item l)
firm_item l = firm_item_by (3 * length l + 1) l (omega arith)
