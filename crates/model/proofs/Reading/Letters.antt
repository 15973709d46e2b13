-- Letters: the reader and the grammar agree. Inside a class a member cannot begin with `-` or `]`, so the next byte tells whether a single is
-- the lower end of a range, and whether the class is closed.
use mathlib.Core.Path.{◌≡◌, refl, sym, ap, ◌∙◌}
use mathlib.Core.Bool.{Bool, false, not, or_assoc}
use mathlib.Core.List.{List, [], ◌∷◌, ◌++◌, append_assoc}
use Prim.Native.Nat.{ℕ, zero, suc, ◌+◌, ◌^◌, ◌≤◌, ◌<◌}
use native.Mathlib.Nat.{pow-suc}
use native.Mathlib.Omega.{arith}
use lib.Dec.{T, leb, leb→le}
use lib.Bits.{bit_or, or_lt, or_zero_l}
use lib.ListN.{length, length-append}
use Rattle.model.specs.Lists.{within}
use Rattle.model.specs.Bits.{bit}
use Rattle.model.specs.Bytes.{byte, bytes, plain}
use Rattle.model.specs.Grammar.{bare, beside, class, dot, escape, escaped, IsLetter, IsMember, IsMembers, IsSingle, itself, member, plain_byte, range, single, span}
use Rattle.model.specs.Models.Places.{Least}
use Rattle.model.specs.Models.Reader.{bad, bind, case, got, past, Read, read_letter, read_member, read_members, read_single}
use Rattle.model.proofs.Laws.Bool.{is_true, le_true}
use Rattle.model.proofs.Reading.Answers.{begins, bind_sound, case_past_sound, cond_sound, equal_sound, map_sound, not_among, parted, past_other, Sound, stopped, took}
use Rattle.model.proofs.Reading.Escapes.{complete_escape, escape_tail, sound_escape}
use Rattle.model.proofs.Words.Bits.{bit_ext, bit-or}

-- ---- singles
pub sound_single : (lo : ℕ) (l : List ℕ) → Sound (Least lo IsSingle) l (read_single lo l)
sound_single lo [] = stopped
sound_single lo (x ∷ xs) =
    cond_sound (bare x)
    (λ h. cond_sound (leb lo x) (λ k. took (x ∷ []) refl (itself refl h, leb→le lo x k)) (λ k. stopped))
    (λ g. equal_sound x (byte "\\") (λ e. map_sound (sound_escape lo xs) (λ u b r f d. took u (ap (λ (y : ℕ). y ∷ xs) e ∙ f) (escaped d.0, d.1))) stopped)

pub complete_single : {w : List ℕ} {b : ℕ} (lo : ℕ) → lo ≤ b → IsSingle w b → (r : List ℕ) → read_single lo (w ++ r) ≡ got b r
complete_single lo g (itself {b} p h) r = rw (p, is_true (bare b) h, le_true lo b g)
complete_single lo g (escaped d) r = rw ((escape_tail d).1, complete_escape lo g d r)

-- a member may begin with this byte; so
abbrev pub inner : ℕ → Bool
inner x = not (within x (bytes "-]"))

abbrev pub inside : List ℕ → Bool
inside [] = false
inside (x ∷ xs) = inner x

inside_append : (u r : List ℕ) → T (inside u) → T (inside (u ++ r))
inside_append [] r h = absurd h
inside_append (x ∷ xs) r h = h

inside_past : (l : List ℕ) (y : ℕ) → T (inside l) → T (not (inner y)) → past y l ≡ bad l
inside_past [] y h k = absurd h
inside_past (x ∷ xs) y h k = past_other inner y x xs h k

pub inside_long : (u : List ℕ) → T (inside u) → 1 ≤ length u
inside_long [] h = absurd h
inside_long (x ∷ xs) h = omega arith

single_inside : {w : List ℕ} {b : ℕ} → IsSingle w b → T (inside w)
single_inside (itself {b} p h) = rw p (not_among bare b (bytes "-]") h tt)
single_inside (escaped d) = rw (escape_tail d).1 tt

-- ---- members
pub sound_member : (l : List ℕ) → Sound IsMember l (read_member l)
sound_member l =
    bind_sound (sound_single 0 l) (λ u lo r e d.
    case_past_sound (byte "-") r
    (λ z r' p. bind_sound (sound_single lo r') (λ v hi r'' f b.
    took (u ++ (byte "-" ∷ v)) (cc (append_assoc u (byte "-" ∷ v) r'')) (range refl refl b.1 d.0 b.0)))
    (took u e (single refl d.0)))

-- the reader, whatever a range comes to: `span` is a sum over 256 bytes, and nothing here asks which
module _ (between : ℕ → ℕ → ℕ) where
  abbrev read_between : List ℕ → Read ℕ
  read_between l =
      bind (read_single 0 l) (λ lo r. case (past (byte "-") r) (λ x r'. bind (read_single lo r') (λ hi r''. got (between lo hi) r'')) (got (between lo lo) r))

  between_single : {w : List ℕ} {c b : ℕ} → c ≡ between b b → IsSingle w b → (r : List ℕ) → past (byte "-") r ≡ bad r → read_between (w ++ r) ≡ got c r
  between_single q d r f = rw (complete_single 0 (omega arith) d r, f, q)

  between_range : {w u v : List ℕ} {c lo hi : ℕ} → w ≡ u ++ (byte "-" ∷ v) → c ≡ between lo hi → lo ≤ hi → IsSingle u lo → IsSingle v hi
      → (r : List ℕ) → read_between (w ++ r) ≡ got c r
  between_range {w} {u} {v} {lo = lo} p q k d b r =
      rw (parted w u (byte "-" ∷ v) r p, complete_single 0 (omega arith) d (byte "-" ∷ (v ++ r)), complete_single lo k b r, q)

complete_member : {w : List ℕ} {c : ℕ} → IsMember w c → (r : List ℕ) → past (byte "-") r ≡ bad r → read_member (w ++ r) ≡ got c r
complete_member (single q d) r f = between_single span q d r f
complete_member (range p q k d b) r f = between_range span p q k d b r

pub member_inside : {w : List ℕ} {c : ℕ} → IsMember w c → T (inside w)
member_inside (single q d) = single_inside d
member_inside (range {u} {v} p q k d b) = rw p (inside_append u (byte "-" ∷ v) (single_inside d))

members_inside : {w : List ℕ} {c : ℕ} → IsMembers w c → T (inside w)
members_inside (member d) = member_inside d
members_inside (beside {u} {v} p q d b) = rw p (inside_append u v (member_inside d))

-- the reader adds the members from the left, the grammar from the right
below_power : (n : ℕ) → n < 2 ^ n
below_power zero = omega arith
below_power (suc n) = omega (arith, below_power n, pow-suc 2 n)

or_regroup : (a b c : ℕ) → bit_or (bit_or a b) c ≡ bit_or a (bit_or b c)
or_regroup a b c =
    bit_ext k (bit_or (bit_or a b) c) (bit_or a (bit_or b c)) (or_lt k (bit_or a b) c (or_lt k a b x y) z) (or_lt k a (bit_or b c) x (or_lt k b c y z))
    (λ i h. rw (bit-or i (bit_or a b) c, bit-or i a b, bit-or i a (bit_or b c), bit-or i b c) (or_assoc (bit a i) (bit b i) (bit c i)))
  where
    k : ℕ
    k = a + (b + c)

    x : a < 2 ^ k
    x = omega (arith, below_power k)

    y : b < 2 ^ k
    y = omega (arith, below_power k)

    z : c < 2 ^ k
    z = omega (arith, below_power k)

-- w is members and `]`, and z is what c and those members make
pub data Closed (c : ℕ) : List ℕ → ℕ → Type 0 where
  closed : {w u : List ℕ} {z d : ℕ} → w ≡ u ++ bytes "]" → z ≡ bit_or c d → IsMembers u d → Closed c w z

pub one_more : (c : ℕ) {u v : List ℕ} {d z : ℕ} → IsMember u d → Closed (bit_or c d) v z → Closed c (u ++ v) z
one_more c {u} {d} m (closed {u = t} {d = e} p q b) =
    closed (ap (λ (x : List ℕ). u ++ x) p ∙ sym (append_assoc u t (bytes "]"))) (q ∙ or_regroup c d e) (beside refl refl m b)

sound_members : (n c : ℕ) (l : List ℕ) → Sound (Closed c) l (read_members n c l)
sound_members zero c l = stopped
sound_members (suc n) c l =
    bind_sound (sound_member l) (λ u d r e m.
    case_past_sound (byte "]") r
    (λ z r' p. took (u ++ bytes "]") (cc (append_assoc u (bytes "]") r')) (closed refl refl (member m)))
    (map_sound (sound_members n (bit_or c d) r) (λ v z r' f b. took (u ++ v) (cc (append_assoc u v r')) (one_more c m b))))

complete_members : {w : List ℕ} {d : ℕ} → IsMembers w d → (n c : ℕ) (r : List ℕ) → length w ≤ n → read_members n c (w ++ (byte "]" ∷ r)) ≡ got (bit_or c d) r
complete_members (member {w} d) zero c r k = absurd (omega (arith, inside_long w (member_inside d)))
complete_members (member d) (suc n) c r k = rw (complete_member d (byte "]" ∷ r) refl)
complete_members (beside {w} p q d b) zero c r k = absurd (omega (arith, inside_long w (members_inside (beside p q d b))))
complete_members (beside {w} {u} {v} {d = y} {e = z} p q d b) (suc n) c r k =
    let g = inside_append v (byte "]" ∷ r) (members_inside b) in
    rw (
      parted w u v (byte "]" ∷ r) p,
      complete_member d (v ++ (byte "]" ∷ r)) (inside_past (v ++ (byte "]" ∷ r)) (byte "-") g tt),
      inside_past (v ++ (byte "]" ∷ r)) (byte "]") g tt,
      complete_members b n (bit_or c y) r (omega (arith, ap length p, length-append u v, inside_long u (member_inside d))),
      or_regroup c y z,
      q,
    )

-- ---- letters
pub all_of : {u : List ℕ} {c : ℕ} → Closed 0 u c → IsLetter (byte "[" ∷ u) c
all_of (closed {d} p q b) = rw (p, q, or_zero_l d) (class refl b)

pub sound_letter : (l : List ℕ) → Sound IsLetter l (read_letter l)
sound_letter [] = stopped
sound_letter (x ∷ xs) =
    cond_sound (plain x) (λ h. took (x ∷ []) refl (plain_byte refl refl h)) (λ g.
    equal_sound x (byte ".") (λ e. took (bytes ".") (cc) (dot refl refl))
    (equal_sound x (byte "[") (λ e. map_sound (sound_members (suc (length xs)) 0 xs) (λ u c r f d. took (byte "[" ∷ u) (cc) (all_of d)))
    (equal_sound x (byte "\\") (λ e. bind_sound (sound_escape 0 xs) (λ u b r f d. took u (cc) (escape refl d.0))) stopped)))

pub complete_letter : {w : List ℕ} {c : ℕ} → IsLetter w c → (r : List ℕ) → read_letter (w ++ r) ≡ got c r
complete_letter (plain_byte {b} p q h) r = rw (p, is_true (plain b) h, q)
complete_letter (escape q d) r = rw ((escape_tail d).1, complete_escape 0 (omega arith) d r, q)
complete_letter (dot p q) r = rw (p, q)
complete_letter (class {w} {u} {c} p d) r =
    let enough : length u ≤ suc (length (u ++ (byte "]" ∷ r))) = omega (arith, length-append u (byte "]" ∷ r)) in
    rw (parted w (byte "[" ∷ u) (bytes "]") r p, complete_members d (suc (length (u ++ (byte "]" ∷ r)))) 0 r enough, or_zero_l c)

pub letter_begins : {w : List ℕ} {c : ℕ} → IsLetter w c → T (begins w)
letter_begins (plain_byte {b} p q h) = rw p (not_among plain b (bytes "(|)?*+{") h tt)
letter_begins (escape q d) = rw (escape_tail d).1 tt
letter_begins (dot p q) = rw p tt
letter_begins (class p d) = rw p tt
