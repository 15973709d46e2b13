-- THE READER OF RULES STOPS AT THE PLACE: for every text the number of bytes that it passed is the length of the longest beginning that some rule
-- has. So a text has one place, and a rule's place is its length.
use mathlib.Core.Path.{◌≡◌, refl, sym, ap, ◌∙◌, subst}
use mathlib.Core.Logic.{◌⊎◌, inl, inr, ◌↔◌}
use mathlib.Core.List.{List, [], ◌∷◌, ◌++◌, append_assoc, append-nil}
use Prim.Native.Nat.{ℕ, zero, suc, ◌-◌, ◌≤◌, ◌<◌}
use native.Mathlib.Omega.{arith}
use lib.Dec.{T}
use lib.ListN.{drop, length, length-append, length-drop, length-replicate, replicate, take}
use lib.Seq.{take-append_seam, take-length}
use Rattle.model.specs.Bytes.{byte, bytes}
use Rattle.model.specs.Tree.{Alts, last, once, Tree}
use Rattle.model.specs.Grammar.{bracket, group, grouped, IsAlts, IsRule, item, nothing, only, rule}
use Rattle.model.specs.Place.{Beginning, PlaceIs}
use Rattle.model.specs.Models.Places.{at_end, Becomes, closes, passed, Placed, taken}
use Rattle.model.specs.Models.Reader.{alts, left, Read, read_place}
use Rattle.model.proofs.Laws.Bool.{le_or_lt}
use Rattle.model.proofs.Reading.Placed.{alternatives_before}
use Rattle.model.proofs.Reading.Positions.{take_beyond}

-- ---- the reader of alternatives, where nothing may follow them
end_closes : (t : List ℕ) → T (at_end t) → T (closes t)
end_closes [] h = tt
end_closes (x ∷ xs) h = absurd h

end_nil : (t : List ℕ) → T (at_end t) → t ≡ []
end_nil [] h = refl
end_nil (x ∷ xs) h = absurd h

rule_placed : (l : List ℕ) → Placed IsAlts at_end l (alts l)
rule_placed = alternatives_before at_end end_closes tt

-- what can still become alternatives and nothing else is a beginning
becomes_beginning : (u : List ℕ) → Becomes IsAlts at_end u → Beginning u
becomes_beginning u B =
    let e : u ++ B.rest ≡ B.part = B.made ∙ ap (λ (t : List ℕ). B.part ++ t) (end_nil B.after B.follows) ∙ append-nil B.part in
    record { rest = B.rest; tree = bracket B.what; is_rule = rw e (rule refl B.is) }

beginning_becomes : (u : List ℕ) → Beginning u → Becomes IsAlts at_end u
beginning_becomes u B = go B.is_rule
  where
    go : IsRule (u ++ B.rest) B.tree → Becomes IsAlts at_end u
    go (rule {a} q d) = record { rest = B.rest; part = u ++ B.rest; after = []; what = a; made = sym (append-nil (u ++ B.rest)); is = d; follows = tt }

-- ---- a text in two parts, of which the first is a beginning and is none with the next byte
shorter : (u v : List ℕ) → Beginning (u ++ v) → Beginning u
shorter u v B = record { rest = v ++ B.rest; tree = B.tree; is_rule = rw (← append_assoc u v B.rest) B.is_rule }

cut_here : (u r : List ℕ) → Beginning u → ((x : ℕ) (s : List ℕ) → r ≡ x ∷ s → Beginning (u ++ (x ∷ [])) → ⊥) → PlaceIs (u ++ r) (length u)
cut_here u r B f = record {
  inside = omega (arith, length-append u r);
  begins = rw (take-append_seam u r) B;
  longest = λ k h C. go k r f h C (le_or_lt k (length u));
}
  where
    go : (k : ℕ) (r : List ℕ) → ((x : ℕ) (s : List ℕ) → r ≡ x ∷ s → Beginning (u ++ (x ∷ [])) → ⊥) → k ≤ length (u ++ r) → Beginning (take k (u ++ r))
        → (k ≤ length u) ⊎ (length u < k) → k ≤ length u
    go k r f h C (inl l) = l
    go k [] f h C (inr l) = omega (arith, length-append u [])
    go k (x ∷ s) f h C (inr l) = let t = take_beyond k u x s l in absurd (f x s refl (shorter (u ++ (x ∷ [])) t.0 (rw (← t.1) C)))

passes : (w u r : List ℕ) → w ≡ u ++ r → length w - length r ≡ length u
passes w u r e = omega (arith, ap length e, length-append u r)

-- THE READER STOPS AT THE PLACE
pub place_is : (w : List ℕ) → PlaceIs w (read_place w)
place_is w = go (rule_placed w)
  where
    at : (u r : List ℕ) → w ≡ u ++ r → PlaceIs (u ++ r) (length u) → PlaceIs w (length w - length r)
    at u r e P = rw (passes w u r e) (subst (λ (z : List ℕ). PlaceIs z (length u)) (sym e) P)

    go : {m : Read Alts} → Placed IsAlts at_end w m → PlaceIs w (length w - length (left m))
    go (taken u {a} {r} e d f) = at u r e (cut_here u r B stop)
      where
        B : Beginning u
        B = record { rest = []; tree = bracket a; is_rule = rw (append-nil u) (rule refl d) }

        stop : (x : ℕ) (s : List ℕ) → r ≡ x ∷ s → Beginning (u ++ (x ∷ [])) → ⊥
        stop x s i C =
            let D = beginning_becomes (u ++ (x ∷ [])) C in
            omega (
              arith,
              ap length D.made,
              ap length (f x s i D).0,
              ap length (end_nil D.after D.follows),
              length-append (u ++ (x ∷ [])) D.rest,
              length-append u (x ∷ []),
              length-append D.part D.after,
            )
    go (passed u {r} e b f) = at u r e (cut_here u r (becomes_beginning u b) (λ x s i C. f x s i (beginning_becomes (u ++ (x ∷ [])) C)))

-- A TEXT HAS ONE PLACE
pub one_place : (w : List ℕ) (p q : ℕ) → PlaceIs w p → PlaceIs w q → p ≡ q
one_place w p q P Q = omega (arith, P.longest q Q.inside Q.begins, Q.longest p P.inside P.begins)

-- SO THE READER DECIDES THE PLACE
pub decides_place : (w : List ℕ) (p : ℕ) → PlaceIs w p ↔ (read_place w ≡ p)
decides_place w p = (λ P. one_place w (read_place w) p (place_is w) P, λ e. subst (PlaceIs w) e (place_is w))

-- THE PLACE OF A TEXT THAT IS WHOLLY A BEGINNING IS ITS LENGTH, and so is a rule's
pub whole_place : (w : List ℕ) → Beginning w → PlaceIs w (length w)
whole_place w B = record { inside = omega arith; begins = rw (take-length w) B; longest = λ k h C. h }

pub rule_place : (w : List ℕ) (t : Tree) → IsRule w t → PlaceIs w (length w)
rule_place w t d = whole_place w (record { rest = []; tree = t; is_rule = rw (append-nil w) d })

-- FOR CODE: the reader of alternatives, from the rule's start, left the bytes from the place p on
pub place_at : (w : List ℕ) (p : ℕ) → p ≤ length w → left (alts w) ≡ drop p w → PlaceIs w p
place_at w p h e =
    let q : read_place w ≡ p = omega (arith, ap length e, length-drop p w) in
    subst (PlaceIs w) q (place_is w)

-- NO LIMIT OF LENGTH OR DEPTH: any number of opening brackets is a beginning
bracketed : (u : List ℕ) → Beginning u → Beginning (byte "(" ∷ u)
bracketed u B = go B.is_rule
  where
    go : IsRule (u ++ B.rest) B.tree → Beginning (byte "(" ∷ u)
    go (rule {a} q d) = record {
      rest = B.rest ++ bytes ")";
      tree = bracket (last (grouped a once));
      is_rule = rule refl (only (item (group (ap (λ (z : List ℕ). byte "(" ∷ z) (sym (append_assoc u B.rest (bytes ")")))) refl d (nothing refl refl))));
    }

open_begins : (n : ℕ) → Beginning (replicate n (byte "("))
open_begins zero = (place_is []).begins
open_begins (suc n) = bracketed (replicate n (byte "(")) (open_begins n)

pub open_brackets : (n : ℕ) → PlaceIs (replicate n (byte "(")) n
open_brackets n = subst (PlaceIs (replicate n (byte "("))) (length-replicate n (byte "(")) (whole_place (replicate n (byte "(")) (open_begins n))
