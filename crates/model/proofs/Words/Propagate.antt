-- PROPAGATE IS A SUBTRACTION (document 01: "subtraction for propagate"): what the pass makes of the end of an edge is live if that end was, or if the pass
-- makes the edge's start live. For along a chain a borrow runs exactly while nothing has been live since the chain's smallest state.
use mathlib.Core.Path.{◌≡◌, refl, sym, ap, ap₂, ◌∙◌, subst}
use mathlib.Core.Logic.{◌⊎◌, inl, inr, ◌≢◌}
use mathlib.Core.Bool.{Bool, true, false, not, ◌&&◌, ◌||◌, or-false, true≢false, not-not}
use mathlib.Core.List.{List, [], ◌∷◌}
use Prim.Native.Nat.{ℕ, suc, ◌≤◌, ◌<◌}
use native.Mathlib.Nat.{le_refl, eq-or-lt_of_le}
use native.Mathlib.Omega.{arith}
use lib.Dec.{eqb, eqb_refl}
use Rattle.model.specs.Lists.{All, any}
use Rattle.model.specs.Edges.{Way}
use Rattle.model.proofs.Laws.Bool.{is_true, unequal}
use Rattle.model.proofs.Words.Bits.{odd2}
use Rattle.model.proofs.Words.Chains.{Chained, Rises}
use Rattle.model.proofs.Words.InOrder.{rows_none}
use Rattle.model.proofs.Words.Ripple.{borrow, difference_bits, into, odd3}
use Rattle.model.proofs.Words.Runs.{run}

-- a state in which an edge ends; from which one starts
abbrev pub enters_of : List Way → ℕ → Bool
enters_of ps x = any (λ p. eqb x p.1) ps

abbrev pub leaves_of : List Way → ℕ → Bool
leaves_of ps x = any (λ p. eqb x p.0) ps

no_entry : (x a b : ℕ) (ps : List Way) → x ≤ a → Chained a b ps → enters_of ps x ≡ false
no_entry x a b ps h A = rows_none (λ p. p.0) (λ p. p.1) Rises (λ p h. h) (λ p. eqb x p.1) x a b ps h A (λ p l k. unequal x p.1 (λ e. omega arith))

no_exit : (x a b : ℕ) (ps : List Way) → x < a → Chained a b ps → leaves_of ps x ≡ false
no_exit x a b ps h A = rows_none (λ p. p.0) (λ p. p.1) Rises (λ p h. h) (λ p. eqb x p.0) (suc x) a b ps h A (λ p l k. unequal x p.0 (λ e. omega arith))

-- ---- one state: d says that it is live, i that an edge ends in it, o that one starts from it
-- a source is a chain's smallest state, a target its largest; the minuend has the live states of the chains and the targets
abbrev source : Bool → Bool → Bool
source i o = o && not i

abbrev minuend : Bool → Bool → Bool → Bool
minuend d i o = (d && (o || i)) || (i && not o)

-- what the pass makes of it, where b is borrowed from it
abbrev made : Bool → Bool → Bool → Bool → Bool
made d i o b = d || ((o || i) && odd2 (not (odd3 (minuend d i o) (source i o) b)) (minuend d i o))

made_source : (d o : Bool) → made d false o false ≡ d
made_source true o = refl
made_source false true = refl
made_source false false = refl

made_met : (d o b : Bool) → made d true o b ≡ (d || not b)
made_met true o b = refl
made_met false true true = refl
made_met false true false = refl
made_met false false true = refl
made_met false false false = refl

-- what it borrows in turn: at a source, inside a chain, at a target, outside of all chains
next_source : (d : Bool) → borrow (minuend d false true) (source false true) false ≡ not d
next_source true = refl
next_source false = refl

next_inside : (d b : Bool) → borrow (minuend d true true) (source true true) b ≡ not (d || not b)
next_inside true true = refl
next_inside true false = refl
next_inside false true = refl
next_inside false false = refl

next_target : (d b : Bool) → borrow (minuend d true false) (source true false) b ≡ false
next_target true b = refl
next_target false b = refl

next_outside : (d b : Bool) → borrow (minuend d false false) (source false false) b ≡ b
next_outside true true = refl
next_outside true false = refl
next_outside false true = refl
next_outside false false = refl

-- ---- all states: D are live, in I edges end, from O they start
module _ (D I O : ℕ → Bool) where
  abbrev minuends : ℕ → Bool
  minuends x = minuend (D x) (I x) (O x)

  abbrev sources : ℕ → Bool
  sources x = source (I x) (O x)

  abbrev borrowed : ℕ → Bool
  borrowed x = into borrow minuends sources false x

  -- WHAT THE PASS MAKES: live | (block & (!(minuend - source) ^ minuend))
  abbrev pub propagate_bits : ℕ → Bool
  propagate_bits x = D x || ((O x || I x) && odd2 (not (difference_bits minuends sources x)) (minuends x))

  pub untouched : (x : ℕ) → I x ≡ false → O x ≡ false → propagate_bits x ≡ D x
  untouched x i o = ap₂ (λ (a b : Bool). D x || ((a || b) && odd2 (not (difference_bits minuends sources x)) (minuends x))) o i ∙ or-false (D x)

  at_source : (x : ℕ) → I x ≡ false → borrowed x ≡ false → propagate_bits x ≡ D x
  at_source x i b = ap₂ (λ (k c : Bool). made (D x) k (O x) c) i b ∙ made_source (D x) (O x)

  at_met : (x : ℕ) → I x ≡ true → propagate_bits x ≡ (D x || not (borrowed x))
  at_met x i = ap (λ (k : Bool). made (D x) k (O x) (borrowed x)) i ∙ made_met (D x) (O x) (borrowed x)

  pass_on : (x : ℕ) (v : Bool) → I x ≡ false → O x ≡ false → borrow (minuends x) (sources x) v ≡ v
  pass_on x v i o = ap₂ (λ (b c : Bool). borrow (minuend (D x) b c) (source b c) v) i o ∙ next_outside (D x) v

  -- along an edge; and at a state where a chain begins
  abbrev pub Along : Way → Type 0
  Along p = (propagate_bits p.1 ≡ (D p.1 || propagate_bits p.0)) × (I p.0 ≡ false → propagate_bits p.0 ≡ D p.0)

  -- the edges from state a on; c says that an edge ends in a
  from : (a b : ℕ) (c : Bool) (ps : List Way) → Chained a b ps → I a ≡ c → ((x : ℕ) → a < x → I x ≡ enters_of ps x) → ((x : ℕ) → a ≤ x → O x ≡ leaves_of ps x)
      → (c ≡ false → borrowed a ≡ false) → All Along ps
  from a b c [] H ha hI hO hB = tt
  from a b c (p ∷ ps) H ha hI hO hB = (
    (made_r, λ e. at_source q e (B-q (eq-or-lt_of_le H.0) e)),
    from r b true ps H.2 I-r I-rest O-rest (λ e. absurd (true≢false e)),
  )
    where
      q : ℕ
      q = p.0

      r : ℕ
      r = p.1

      O-q : O q ≡ true
      O-q = hO q H.0 ∙ ap (λ (n : Bool). n || leaves_of ps q) (is_true (eqb q q) (eqb_refl q))

      I-r : I r ≡ true
      I-r = hI r (omega (arith, H.0, H.1)) ∙ ap (λ (n : Bool). n || enters_of ps r) (is_true (eqb r r) (eqb_refl r))

      I-no : (x : ℕ) → a < x → x < r → I x ≡ false
      I-no x h k = hI x h ∙ ap₂ ◌||◌ (unequal x r (λ e. omega arith)) (no_entry x r b ps (omega arith) H.2)

      O-no : (x : ℕ) → a ≤ x → x < r → x ≢ q → O x ≡ false
      O-no x h k n = hO x h ∙ ap₂ ◌||◌ (unequal x q n) (no_exit x r b ps k H.2)

      -- past a, where no edge starts
      B-a : (i : Bool) → I a ≡ i → O a ≡ false → borrowed (suc a) ≡ false
      B-a true e o = ap₂ (λ (m n : Bool). borrow (minuend (D a) m n) (source m n) (borrowed a)) e o ∙ next_target (D a) (borrowed a)
      B-a false e o = pass_on a (borrowed a) e o ∙ hB (sym ha ∙ e)

      B-q : (a ≡ q) ⊎ (a < q) → I q ≡ false → borrowed q ≡ false
      B-q (inl e) i = subst (λ (x : ℕ). borrowed x ≡ false) e (hB (sym ha ∙ subst (λ (x : ℕ). I x ≡ false) (sym e) i))
      B-q (inr l) i =
          run borrow minuends sources false false (suc a) q (B-a (I a) refl (O-no a (le_refl a) (omega (arith, H.1)) (λ e. omega arith)))
          (λ j h k. pass_on j false (I-no j h (omega (arith, H.1))) (O-no j (omega arith) (omega (arith, H.1)) (λ e. omega arith))) q l (le_refl q)

      B-next : (i : Bool) → I q ≡ i → borrowed (suc q) ≡ not (propagate_bits q)
      B-next true e =
          ap₂ (λ (m n : Bool). borrow (minuend (D q) m n) (source m n) (borrowed q)) e O-q ∙ next_inside (D q) (borrowed q) ∙ ap not (sym (at_met q e))
      B-next false e =
          let none = B-q (eq-or-lt_of_le H.0) e in
          (λ k. borrow (minuend (D q) (e k) (O-q k)) (source (e k) (O-q k)) (none k)) ∙ next_source (D q) ∙ ap not (sym (at_source q e none))

      B-r : borrowed r ≡ not (propagate_bits q)
      B-r =
          run borrow minuends sources false (not (propagate_bits q)) (suc q) r (B-next (I q) refl)
          (λ j h k. pass_on j (not (propagate_bits q)) (I-no j (omega (arith, H.0)) k) (O-no j (omega (arith, H.0)) k (λ e. omega arith))) r H.1 (le_refl r)

      made_r : propagate_bits r ≡ (D r || propagate_bits q)
      made_r = at_met r I-r ∙ ap (λ (n : Bool). D r || not n) B-r ∙ ap (λ (n : Bool). D r || n) (not-not (propagate_bits q))

      I-rest : (x : ℕ) → r < x → I x ≡ enters_of ps x
      I-rest x h = hI x (omega (arith, H.0, H.1)) ∙ ap (λ (n : Bool). n || enters_of ps x) (unequal x r (λ e. omega arith))

      O-rest : (x : ℕ) → r ≤ x → O x ≡ leaves_of ps x
      O-rest x h = hO x (omega (arith, H.0, H.1)) ∙ ap (λ (n : Bool). n || leaves_of ps x) (unequal x q (λ e. omega (arith, H.1)))

-- THE THEOREM, for all propagate edges of one depth
pub propagate : (D : ℕ → Bool) (b : ℕ) (ps : List Way) → Chained 0 b ps → All (Along D (enters_of ps) (leaves_of ps)) ps
propagate D b ps A = from D (enters_of ps) (leaves_of ps) 0 b false ps A (no_entry 0 0 b ps (le_refl 0) A) (λ x h. refl) (λ x h. refl) (λ e. refl)
