-- A SPELLING EXISTS EXACTLY FOR AN END. What is live after a text was led to from a live state, or from state 0 after some of the bytes.
use mathlib.Core.Path.{◌≡◌, refl, sym, ap, ◌∙◌, subst}
use mathlib.Core.Logic.{◌⊎◌, inl, inr, ◌↔◌}
use mathlib.Core.List.{List, [], ◌∷◌, ◌++◌}
use Prim.Native.Nat.{ℕ, ◌≤◌}
use lib.ListN.{length, take}
use Rattle.model.specs.Tree.{Tree}
use Rattle.model.specs.Grammar.{IsRule}
use Rattle.model.specs.Edges.{accepting}
use Rattle.model.specs.Live.{After, Before, Free, itself, Live, LiveFrom, onward, Takes}
use Rattle.model.specs.Ends.{End}
use Rattle.model.proofs.Definitions.Ends.{end_live}
use Rattle.model.specs.Models.Leads.{Leads}
use Rattle.model.specs.Spelling.{between, Reaches, Spelled}
use Rattle.model.proofs.Spelling.Leads.{between_long, cut_between, earlier, follow_long, leads_follow, origin, take_between}

module _ (t : Tree) where
  -- ---- FROM LIVE STATES: either from one that was live before the bytes, or from 0 after some of them
  abbrev Began : (ℕ → Type 0) → List ℕ → Type 0
  Began D w = ((x : ℕ) × D x × Leads t w x) ⊎ ((u : List ℕ) × (v : List ℕ) × (w ≡ u ++ v) × Leads t v 0)

  began : (w : List ℕ) (D : ℕ → Type 0) → LiveFrom t D w (accepting t) → Began D w
  began [] D h = inl (accepting t, h, itself refl)
  began (b ∷ w) D h = go (began w (After t b D) h)
    where
      moved : (x y : ℕ) → (y ≡ 0) ⊎ ((q : ℕ) × D q × Takes t b q y) → Reaches t y x → Leads t w x → Began D (b ∷ w)
      moved x y (inl e) r l = inr (b ∷ [], w, refl, subst (Leads t w) e (earlier t w r l))
      moved x y (inr (q, d, k)) r l = inl (q, d, (q, itself refl, (y, k, earlier t w r l)))

      go : Began (After t b D) w → Began D (b ∷ w)
      go (inl (x, a, l)) = let o = origin a in moved x o.0 o.1 o.2 l
      go (inr (u, v, e, l)) = inr (b ∷ u, v, ap (λ (z : List ℕ). b ∷ z) e, l)

  -- ---- AND BACK: a set that is closed, and has 0
  abbrev Closed : (ℕ → Type 0) → Type 0
  Closed D = (q r : ℕ) → D q → Free t q r → D r

  onto : (D : ℕ → Type 0) → Closed D → (q r : ℕ) → D q → Reaches t q r → D r
  onto D c q r d (itself e) = subst D (sym e) d
  onto D c q r d (onward {q = p} h e) = c p r (onto D c q p d h) e

  led : (w : List ℕ) (D : ℕ → Type 0) → Closed D → (q : ℕ) → D q → Leads t w q → LiveFrom t D w (accepting t)
  led [] D c q d l = onto D c q (accepting t) d l
  led (b ∷ w) D c q d (p, h, (r, k, l)) = led w (After t b D) (λ x y a e. onward a e) r (itself (inr (p, onto D c q p d h, k))) l

  led_after : (u w : List ℕ) (D : ℕ → Type 0) → Closed D → D 0 → Leads t w 0 → LiveFrom t D (u ++ w) (accepting t)
  led_after [] w D c d l = led w D c 0 d l
  led_after (b ∷ u) w D c d l = led_after u w (After t b D) (λ x y a e. onward a e) (itself (inl refl)) l

  -- the accepting state is live exactly if the last bytes lead to it from 0
  live_leads : (w : List ℕ) → Live t w (accepting t) ↔ ((u : List ℕ) × (v : List ℕ) × (w ≡ u ++ v) × Leads t v 0)
  live_leads w = (λ h. go (began w (Before t) h), λ (u, v, e, l). subst (λ (x : List ℕ). Live t x (accepting t)) (sym e) (led_after u v (Before t) (λ x y a e. onward a e) (itself refl) l))
    where
      go : Began (Before t) w → (u : List ℕ) × (v : List ℕ) × (w ≡ u ++ v) × Leads t v 0
      go (inl (x, a, l)) = ([], w, refl, earlier t w a l)
      go (inr s) = s

  -- a spelling from one place to another exists exactly if the bytes between them lead there from 0
  pub spelled_leads : (text : List ℕ) (start end : ℕ)
      → ((states : List ℕ) × Spelled t text start end states) ↔ ((end ≤ length text) × (start ≤ end) × Leads t (between text start end) 0)
  spelled_leads text start end = (
    λ (rs, s). (s.inside, s.ordered, (leads_follow t (between text start end) 0).1 (rs, s.follow)),
    λ (l, m, h).
        let f = (leads_follow t (between text start end) 0).0 h in
        (f.0, record { inside = l; ordered = m; each = follow_long t (between text start end) f.0 0 f.1 ∙ between_long text start end m l; follow = f.1 }),
  )

  -- "A PROPOSAL THAT GETS YES EXISTS EXACTLY FOR THE ENDS OF DOCUMENT 01."
  pub spelled_end : {rule : List ℕ} → IsRule rule t → (text : List ℕ) (p : ℕ) → ((start : ℕ) × (states : List ℕ) × Spelled t text start p states) ↔ End t text p
  spelled_end d text p = (there, back)
    where
      there : (start : ℕ) × (states : List ℕ) × Spelled t text start p states → End t text p
      there (i, rs, s) =
          let l = (spelled_leads text i p).0 (rs, s) in
          (end_live t d text p).1 (l.0, (live_leads (take p text)).1 (take i text, between text i p, take_between text i p l.1, l.2))

      back : End t text p → (start : ℕ) × (states : List ℕ) × Spelled t text start p states
      back e =
          let l = (end_live t d text p).0 e in
          let w = (live_leads (take p text)).0 l.1 in
          let c = cut_between text w.0 w.1 p l.0 w.2 in
          let s = (spelled_leads text (length w.0) p).1 (l.0, c.0, subst (λ (v : List ℕ). Leads t v 0) (sym c.1) w.3) in
          (length w.0, s.0, s.1)
