-- THE READER DECIDES THE GRAMMAR: what it reads is a rule with the tree that it gives, and every rule is read. So no rule has two trees.
-- Soundness goes along the readers, completeness along the grammar; the byte after a part tells both where the part ends.
use mathlib.Core.Path.{◌≡◌, refl, sym, ap, ◌∙◌, subst}
use mathlib.Core.Logic.{◌↔◌}
use mathlib.Core.List.{List, [], ◌∷◌, ◌++◌, append-nil, append_assoc}
use mathlib.Core.Option.{some}
use Prim.Native.Nat.{ℕ, zero, suc, ◌+◌, ◌*◌, ◌≤◌}
use native.Mathlib.Omega.{arith}
use lib.Dec.{T}
use lib.ListN.{length, length-append}
use Rattle.model.specs.Bytes.{byte, bytes}
use Rattle.model.specs.Tree.{Alts, once, Repeat, Seq}
use Rattle.model.specs.Grammar.{also, any_number, bracket, group, IsAlts, IsItem, IsMark, IsRule, IsSeq, item, lone, nothing, only, query, rule, some_number, then}
use Rattle.model.specs.Models.Places.{closes, free, Piece, piece}
use Rattle.model.specs.Models.Reader.{bad, got, over, Read, read_alts, read_item, read_mark, read_piece, read_rule, read_seq, whole}
use Rattle.model.proofs.Laws.Bool.{is_true}
use Rattle.model.proofs.Reading.Answers.{begins_append, begins_opens, begins_past, bind_past_sound, bind_sound, case_past_sound, closes_over, closes_past, cond_sound, equal_sound, free_other, map_sound, opens, opens_append, opens_free, opens_long, opens_over, over_free, parted, Sound, stopped, took}
use Rattle.model.proofs.Reading.Letters.{complete_letter, letter_begins, sound_letter}
use Rattle.model.proofs.Reading.Signs.{complete_sign, sound_sign}

-- ---- what is read is in the grammar
pub piece_item : {w : List ℕ} {s : Seq} → Piece w s → IsItem w s
piece_item (piece p q d b) = lone p q d b

pub sound_piece : (l : List ℕ) → Sound Piece l (read_piece l)
sound_piece l =
    bind_sound (sound_letter l) (λ u c r e d.
    bind_sound (sound_sign r) (λ v q r' f b.
    took (u ++ v) (cc (append_assoc u v r')) (piece refl refl d b)))

pub sound_mark : (l : List ℕ) → Sound IsMark l (read_mark l)
sound_mark [] = took [] refl (nothing refl refl)
sound_mark (x ∷ xs) =
    equal_sound x (byte "?") (λ e. took (bytes "?") (ap (λ (y : ℕ). y ∷ xs) e) (query refl refl))
    (equal_sound x (byte "*") (λ e. took (bytes "*") (ap (λ (y : ℕ). y ∷ xs) e) (any_number refl refl))
    (equal_sound x (byte "+") (λ e. took (bytes "+") (ap (λ (y : ℕ). y ∷ xs) e) (some_number refl refl)) (took [] refl (nothing refl refl))))

mutual
  pub sound_alts : (n : ℕ) (l : List ℕ) → Sound IsAlts l (read_alts n l)
  sound_alts zero l = stopped
  sound_alts (suc n) l =
      bind_sound (sound_seq n l) (λ u s r e d.
      case_past_sound (byte "|") r
      (λ z r' p. bind_sound (sound_alts n r') (λ v a r'' f b. took (u ++ (byte "|" ∷ v)) (cc (append_assoc u (byte "|" ∷ v) r'')) (also refl d b)))
      (took u e (only d)))

  pub sound_seq : (n : ℕ) (l : List ℕ) → Sound IsSeq l (read_seq n l)
  sound_seq zero l = stopped
  sound_seq (suc n) l =
      bind_sound (sound_item n l) (λ u h r e d.
      cond_sound (over r)
      (λ z. took u e (item d))
      (λ z. bind_sound (sound_seq n r) (λ v t r' f b. took (u ++ v) (cc (append_assoc u v r')) (then refl refl d b))))

  pub sound_item : (n : ℕ) (l : List ℕ) → Sound IsItem l (read_item n l)
  sound_item zero l = stopped
  sound_item (suc n) l =
      case_past_sound (byte "(") l
      (λ z r p. bind_sound (sound_alts n r) (λ u a r' e d.
      bind_past_sound (byte ")") r' (λ y r'' q.
      bind_sound (sound_mark r'') (λ v m r''' f b. took (byte "(" ∷ (u ++ (byte ")" ∷ v))) (cc (append_assoc u (byte ")" ∷ v) r''')) (group refl refl d b)))))
      (map_sound (sound_piece l) (λ u s r e d. took u e (piece_item d)))

sound_rule : (w : List ℕ) (s : Seq) → read_rule w ≡ some s → IsRule w s
sound_rule w s e = go (read_alts (3 * length w + 3) w) (sound_alts (3 * length w + 3) w) e
  where
    go : (m : Read Alts) → Sound IsAlts w m → whole m ≡ some s → IsRule w s
    go (bad r) h q = let z : ◌≡◌ {A = ℕ} 0 1 = cc in absurd (omega arith)
    go (got a (x ∷ xs)) h q = let z : ◌≡◌ {A = ℕ} 0 1 = cc in absurd (omega arith)
    go (got a []) (took u f d) q = let z : bracket a ≡ s = cc in subst (λ (l : List ℕ). IsRule l s) (sym (f ∙ append-nil u)) (rule (sym z) d)

-- ---- how parts of a rule begin
mutual
  pub seq_opens : {w : List ℕ} {s : Seq} → IsSeq w s → T (opens w)
  seq_opens (item d) = item_opens d
  seq_opens (then {u} {v} p q d b) = rw p (opens_append u v (item_opens d))

  pub item_opens : {w : List ℕ} {s : Seq} → IsItem w s → T (opens w)
  item_opens (lone {u} {v} p q d b) = rw p (opens_append u v (begins_opens u (letter_begins d)))
  item_opens (group p q d b) = rw p tt

-- ---- what is in the grammar is read, and what may follow it is left
free_mark : (r : List ℕ) → T (free r) → read_mark r ≡ got once r
free_mark [] h = refl
free_mark (x ∷ xs) h =
    rw (free_other x xs (byte "?") h tt, free_other x xs (byte "*") h tt, free_other x xs (byte "+") h tt)

complete_mark : {w : List ℕ} {q : Repeat} → IsMark w q → (r : List ℕ) → T (free r) → read_mark (w ++ r) ≡ got q r
complete_mark (nothing p q) r c = rw (p, q) (free_mark r c)
complete_mark (query p q) r c = rw (p, q)
complete_mark (any_number p q) r c = rw (p, q)
complete_mark (some_number p q) r c = rw (p, q)

mutual
  pub complete_alts : {w : List ℕ} {a : Alts} → IsAlts w a → (n : ℕ) (r : List ℕ) → T (closes r) → 3 * length (w ++ r) + 3 ≤ n → read_alts n (w ++ r) ≡ got a r
  complete_alts (only d) zero r c k = absurd (omega arith)
  complete_alts (only d) (suc n) r c k = rw (complete_seq d n r (closes_over r c) (omega arith), closes_past r c)
  complete_alts (also p d b) zero r c k = absurd (omega arith)
  complete_alts (also {w} {u} {v} p d b) (suc n) r c k =
      let e = parted w u (byte "|" ∷ v) r p in
      let size = ap length e in
      rw (e, complete_seq d n (byte "|" ∷ (v ++ r)) tt (omega arith), complete_alts b n r c (omega (arith, length-append u (byte "|" ∷ (v ++ r)))))

  pub complete_seq : {w : List ℕ} {s : Seq} → IsSeq w s → (n : ℕ) (r : List ℕ) → T (over r) → 3 * length (w ++ r) + 2 ≤ n → read_seq n (w ++ r) ≡ got s r
  complete_seq (item d) zero r c k = absurd (omega arith)
  complete_seq (item d) (suc n) r c k = rw (complete_item d n r (over_free r c) (omega arith), is_true (over r) c)
  complete_seq (then p q d b) zero r c k = absurd (omega arith)
  complete_seq (then {w} {u} {v} p q d b) (suc n) r c k =
      let e = parted w u v r p in
      let size = ap length e in
      let o = opens_append v r (seq_opens b) in
      rw (
        e,
        complete_item d n (v ++ r) (opens_free (v ++ r) o) (omega arith),
        opens_over (v ++ r) o,
        complete_seq b n r c (omega (arith, length-append u (v ++ r), opens_long u (item_opens d))),
        q,
      )

  pub complete_item : {w : List ℕ} {s : Seq} → IsItem w s → (n : ℕ) (r : List ℕ) → T (free r) → 3 * length (w ++ r) + 1 ≤ n → read_item n (w ++ r) ≡ got s r
  complete_item (lone p q d b) zero r c k = absurd (omega arith)
  complete_item (lone {w} {u} {v} p q d b) (suc n) r c k =
      rw (parted w u v r p, begins_past (u ++ (v ++ r)) (begins_append u (v ++ r) (letter_begins d)), complete_letter d (v ++ r), complete_sign b r c, q)
  complete_item (group p q d b) zero r c k = absurd (omega arith)
  complete_item (group {w} {u} {v} p q d b) (suc n) r c k =
      let e = parted w (byte "(" ∷ u) (byte ")" ∷ v) r p in
      rw (e, complete_alts d n (byte ")" ∷ (v ++ r)) tt (omega (arith, ap length e)), complete_mark b r c, q)

complete_rule : {w : List ℕ} {s : Seq} → IsRule w s → read_rule w ≡ some s
complete_rule (rule {w} p d) =
    let e = complete_alts d (3 * length w + 3) [] tt (omega (arith, length-append w [])) in
    rw p (ap whole (rw append-nil at e))

-- THE READER DECIDES THE GRAMMAR
pub reads : (w : List ℕ) (s : Seq) → IsRule w s ↔ (read_rule w ≡ some s)
reads w s = (complete_rule, sound_rule w s)

-- A RULE HAS ONE TREE
pub one_tree : (w : List ℕ) (s t : Seq) → IsRule w s → IsRule w t → s ≡ t
one_tree w s t d e = let p = complete_rule d in let q = complete_rule e in cc
