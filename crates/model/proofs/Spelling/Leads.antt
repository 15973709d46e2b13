-- FROM WHERE BYTES LEAD TO THE ACCEPTING STATE: the states from which some list of states follows. Byte by byte from the last to the first, the set of
-- these states is computed from the set after the byte.
use mathlib.Core.Path.{◌≡◌, refl, sym, ap, ◌∙◌, subst}
use mathlib.Core.Logic.{◌↔◌}
use mathlib.Core.List.{List, [], ◌∷◌, ◌++◌, append_assoc}
use Prim.Native.Nat.{ℕ, suc, ◌+◌, ◌-◌, ◌≤◌, ◌<◌}
use native.Mathlib.Omega.{arith}
use lib.ListN.{drop, get_or, length, length-append, length-drop, take, take-append-drop}
use lib.Seq.{drop-append_seam, drop-cons, drop-drop, get_or-drop, length-take-le, take-add, take_at, take-suc}
use Rattle.model.specs.Tree.{Tree}
use Rattle.model.specs.Edges.{accepting, states}
use Rattle.model.specs.Live.{itself, onward, Reached, Takes}
use Rattle.model.specs.Models.Leads.{Chain, Leads}
use Rattle.model.specs.Spelling.{between, Follow, Reaches}
use Rattle.model.proofs.Definitions.Below.{takes_below}

-- what is reached from a set is reached from one of its states
pub origin : {R : ℕ → ℕ → Type 0} {D : ℕ → Type 0} {q : ℕ} → Reached R D q → (x : ℕ) × D x × Reached R (λ y. y ≡ x) q
origin (itself {q} h) = (q, h, itself refl)
origin (onward h e) = let r = origin h in (r.0, r.1, onward r.2 e)

-- and from what reaches that state
joined : {R : ℕ → ℕ → Type 0} {D : ℕ → Type 0} {p q : ℕ} → Reached R D p → Reached R (λ y. y ≡ p) q → Reached R D q
joined {R} {D} h (itself e) = subst (Reached R D) (sym e) h
joined h (onward k e) = onward (joined h k) e

module _ (t : Tree) where
  -- some states follow exactly there
  pub leads_follow : (bs : List ℕ) (q : ℕ) → Leads t bs q ↔ ((rs : List ℕ) × Follow t q bs rs)
  leads_follow bs q = (there bs q, λ h. back bs h.0 q h.1)
    where
      there : (bs : List ℕ) (q : ℕ) → Leads t bs q → (rs : List ℕ) × Follow t q bs rs
      there [] q h = ([], h)
      there (b ∷ bs) q (p, h, (r, k, l)) = let f = there bs r l in (r ∷ f.0, ((p, h, k), f.1))

      back : (bs rs : List ℕ) (q : ℕ) → Follow t q bs rs → Leads t bs q
      back [] [] q f = f
      back [] (r ∷ rs) q f = absurd f
      back (b ∷ bs) [] q f = absurd f
      back (b ∷ bs) (r ∷ rs) q ((p, h, k), f) = (p, h, (r, k, back bs rs r f))

  -- a state that reaches one of them is one
  pub earlier : (bs : List ℕ) {p q : ℕ} → Reaches t q p → Leads t bs p → Leads t bs q
  earlier [] h l = joined h l
  earlier (b ∷ bs) h (p, k, l) = (p, joined h k, l)

  -- what leads on leads on after some of the bytes too, from one of the tree's states
  pub leads_later : (u v : List ℕ) (q : ℕ) → q < states t → Leads t (u ++ v) q → (r : ℕ) × (r < states t) × Leads t v r
  leads_later [] v q h l = (q, h, l)
  leads_later (b ∷ u) v q h (p, k, (r, m, l)) = leads_later u v r (takes_below t b p r m) l

  -- one state for each byte
  pub follow_long : (bs rs : List ℕ) (q : ℕ) → Follow t q bs rs → length rs ≡ length bs
  follow_long [] [] q f = refl
  follow_long [] (r ∷ rs) q f = absurd f
  follow_long (b ∷ bs) [] q f = absurd f
  follow_long (b ∷ bs) (r ∷ rs) q f = ap suc (follow_long bs rs r f.1)

  -- ---- a chain: one more state, and its end
  pub chain_more : (bs xs : List ℕ) (q r : ℕ) → Chain t q bs xs r → (b p x : ℕ) → Reaches t r p → Takes t b p x → Chain t q (bs ++ (b ∷ [])) (xs ++ (x ∷ [])) x
  chain_more [] [] q r c b p x h k = ((p, subst (λ (z : ℕ). Reaches t z p) (sym c) h, k), refl)
  chain_more [] (y ∷ ys) q r c b p x h k = absurd c
  chain_more (a ∷ bs) [] q r c b p x h k = absurd c
  chain_more (a ∷ bs) (y ∷ ys) q r c b p x h k = (c.0, chain_more bs ys y r c.1 b p x h k)

  pub chain_ends : (bs xs : List ℕ) (q r : ℕ) → Chain t q bs xs r → Reaches t r (accepting t) → Follow t q bs xs
  chain_ends [] [] q r c h = subst (λ (z : ℕ). Reaches t z (accepting t)) (sym c) h
  chain_ends [] (y ∷ ys) q r c h = absurd c
  chain_ends (a ∷ bs) [] q r c h = absurd c
  chain_ends (a ∷ bs) (y ∷ ys) q r c h = (c.0, chain_ends bs ys y r c.1 h)

-- ---- the bytes between two places
pub between_long : (text : List ℕ) (start end : ℕ) → start ≤ end → end ≤ length text → length (between text start end) ≡ end - start
between_long text start end l m = length-take-le (end - start) (drop start text) (rw length-drop (omega arith))

pub between_none : (text : List ℕ) (end : ℕ) → between text end end ≡ []
between_none text end = let e : end - end ≡ 0 = omega arith in rw e

-- the one at the first place, and the others
pub between_one : (text : List ℕ) (k end : ℕ) → k < end → end ≤ length text → between text k end ≡ get_or text k 0 ∷ between text (suc k) end
between_one text k end l m =
    let e : end - k ≡ suc (end - suc k) = omega arith in
    let h : k < length text = omega arith in
    ap (take (end - k)) (drop-cons text k 0 h) ∙ ap (λ (n : ℕ). take n (get_or text k 0 ∷ drop (suc k) text)) e

-- those up to a place between them, and those from there on
pub between_split : (text : List ℕ) (start k end : ℕ) → start ≤ k → k ≤ end → between text start end ≡ between text start k ++ between text k end
between_split text start k end l m =
    let e : end - start ≡ (k - start) + (end - k) = omega arith in
    let d : start + (k - start) ≡ k = omega arith in
    ap (λ (n : ℕ). take n (drop start text)) e ∙ take-add (k - start) (end - k) (drop start text)
    ∙ ap (λ (xs : List ℕ). between text start k ++ take (end - k) xs) (drop-drop (k - start) start text ∙ ap (λ (n : ℕ). drop n text) d)

-- those before, and these
pub take_between : (text : List ℕ) (start end : ℕ) → start ≤ end → take end text ≡ take start text ++ between text start end
take_between text start end l = let e : end ≡ start + (end - start) = omega arith in ap (λ (n : ℕ). take n text) e ∙ take-add start (end - start) text

pub cut_between : (text u v : List ℕ) (end : ℕ) → end ≤ length text → take end text ≡ u ++ v → (length u ≤ end) × (between text (length u) end ≡ v)
cut_between text u v end l e =
    let n : end ≡ length u + length v = sym (length-take-le end text l) ∙ ap length e ∙ length-append u v in
    let m : end - length u ≡ length v = omega arith in
    let whole : text ≡ u ++ (v ++ drop end text) = sym (take-append-drop end text) ∙ ap (λ (x : List ℕ). x ++ drop end text) e ∙ append_assoc u v (drop end text) in
    let left : drop (length u) text ≡ v ++ drop end text = ap (drop (length u)) whole ∙ drop-append_seam u (v ++ drop end text) in
    (omega arith, ap (take (end - length u)) left ∙ take_at v (drop end text) (end - length u) (sym m))

-- one more at the end
pub between_more : (text : List ℕ) (start k : ℕ) → start ≤ k → k < length text → between text start (suc k) ≡ between text start k ++ (get_or text k 0 ∷ [])
between_more text start k l h =
    let e : suc k - start ≡ suc (k - start) = omega arith in
    let d : start + (k - start) ≡ k = omega arith in
    ap (λ (n : ℕ). take n (drop start text)) e
    ∙ take-suc (drop start text) (k - start) 0 (rw length-drop (omega arith))
    ∙ ap (λ (x : ℕ). take (k - start) (drop start text) ++ (x ∷ [])) (get_or-drop start text (k - start) 0 ∙ ap (λ (n : ℕ). get_or text n 0) d)
