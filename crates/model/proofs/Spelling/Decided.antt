-- THE MODEL OF SPELLINGS DECIDES: a test that some edge passes is passed by an edge of the tree; edges without a letter rise but for those that lead back,
-- and of these one is enough (`tree_rounds`). So the steps along edges are all there are, and the search for the latest start goes through every start
-- from the last on.
use mathlib.Core.Path.{◌≡◌, refl, sym, subst}
use mathlib.Core.Logic.{◌⊎◌, inl, inr, ◌↔◌}
use mathlib.Core.Bool.{Bool, ◌&&◌, ◌||◌}
use mathlib.Core.List.{List, [], ◌∷◌}
use mathlib.Core.Option.{Option, none, some}
use Prim.Native.Nat.{ℕ, zero, suc, ◌-◌, ◌≤◌, ◌<◌}
use native.Mathlib.Nat.{eq-or-lt_of_le, le_refl}
use native.Mathlib.Omega.{arith}
use lib.Dec.{T, eqb, eqb→eq, eqb_refl, leb, leb→le, le→leb, ltb, lt→ltb, ltb→lt}
use lib.ListN.{length}
use Rattle.model.specs.Lists.{◌∈◌}
use Rattle.model.specs.Edges.{accepting, by_letter, by_loop, edge, EdgeKind, edges}
use Rattle.model.specs.Live.{Free, itself, letterless, onward, Reached, Takes}
use Rattle.model.specs.Models.Leads.{Leads}
use Rattle.model.specs.Models.Spelling.{along, follows, is_spelled, latest, latest_below, leads, reaches, rises, rises_in, steps}
use Rattle.model.specs.Spelling.{between, Follow, Latest, Reaches, Spelled}
use Rattle.model.specs.Tree.{Tree}
use Rattle.model.proofs.Definitions.Below.{quiet_rises}
use Rattle.model.proofs.Definitions.Live.{free_silent, silent_free}
use Rattle.model.proofs.Laws.Bool.{and_both, and_split, cond_cases, is_false, le_or_lt, or_left, or_right, or_split}
use Rattle.model.proofs.Laws.Lists.{any_in, any_out}
use Rattle.model.proofs.Passes.Closure.{Add, AnyEdge, reached_map, reached_more}
use Rattle.model.proofs.Passes.OnTrees.{falls, Gathers, Propagates, Returns, Scatters, Silent, tree_rounds}
use Rattle.model.proofs.Spelling.Ends.{spelled_leads}
use Rattle.model.proofs.Words.Full.{Full}

eq_test : {x y : ℕ} → x ≡ y → T (eqb x y)
eq_test {x} e = subst (λ (z : ℕ). T (eqb x z)) e (eqb_refl x)

module _ (t : Tree) (F : Full t) where
  -- ---- along an edge of a kind
  abbrev By : (EdgeKind → Bool) → ℕ → ℕ → Type 0
  By kind p r = (e : EdgeKind) × (k : ℕ) × (edge e k p r ∈ edges t) × T (kind e)

  along_is : (kind : EdgeKind → Bool) (f : ℕ → ℕ → Bool) → T (along t kind f) ↔ ((p : ℕ) × (r : ℕ) × By kind p r × T (f p r))
  along_is kind f = (
    λ h.
        let o = any_out (λ e. kind e.kind && f e.from e.to) (edges t) h in
        let c = and_split (kind o.0.kind) (f o.0.from o.0.to) o.2 in
        (o.0.from, o.0.to, (o.0.kind, o.0.level, o.1, c.0), c.1),
    λ (p, r, (e, k, i, h), m). any_in (λ e. kind e.kind && f e.from e.to) (edges t) (edge e k p r) i (and_both (kind e) (f p r) h m),
  )

  -- ---- edges without a letter, those that rise and those that lead back
  abbrev Quiet : ℕ → ℕ → Type 0
  Quiet = AnyEdge (Propagates t) (Gathers t) (Scatters t)

  rising : (p r : ℕ) → Free t p r → p < r → Quiet p r
  rising p r e l = go (free_silent t F p r e)
    where
      go : Silent t p r → Quiet p r
      go (inl k) = k
      go (inr (k, i)) = absurd (omega (arith, falls t F k p r i))

  falling : (p r : ℕ) → Free t p r → r ≤ p → Returns t p r
  falling p r e l = go (free_silent t F p r e)
    where
      go : Silent t p r → Returns t p r
      go (inl k) = absurd (omega (arith, quiet_rises t p r k))
      go (inr k) = k

  -- ---- by edges that rise: the last of them goes from p to x
  abbrev Rises : ℕ → ℕ → Type 0
  Rises q = Reached Quiet (λ x. x ≡ q)

  abbrev onto : (n q x p r : ℕ) → Bool
  onto n q x p r = (eqb r x && ltb p r) && rises_in n t q p

  rises_out : (n q x : ℕ) → T (rises_in n t q x) → Rises q x
  rises_out zero q x h = itself (eqb→eq x q h)
  rises_out (suc n) q x h = elim (or_split (eqb x q) (along t letterless (onto n q x)) h) [
    | inl e ↦ itself (eqb→eq x q e)
    | inr k ↦
        let (p, r, by, m) = (along_is letterless (onto n q x)).0 k in
        let c = and_split (eqb r x && ltb p r) (rises_in n t q p) m in
        let b = and_split (eqb r x) (ltb p r) c.0 in
        onward (rises_out n q p c.1) (subst (Quiet p) (eqb→eq r x b.0) (rising p r by (ltb→lt p r b.1)))
  ]

  rises-in : (n q x : ℕ) → x ≤ n → Rises q x → T (rises_in n t q x)
  rises-in zero q x l (itself e) = eq_test e
  rises-in (suc n) q x l (itself e) = or_left (eqb x q) (along t letterless (onto n q x)) (eq_test e)
  rises-in zero q x l (onward {q = p} h e) = absurd (omega (arith, quiet_rises t p x e))
  rises-in (suc n) q x l (onward {q = p} h e) =
      let up = quiet_rises t p x e in
      let k = rises-in n q p (omega (arith, up)) h in
      or_right (eqb x q) (along t letterless (onto n q x))
      ((along_is letterless (onto n q x)).1
      (p, x, silent_free t F p x (inl e), and_both (eqb x x && ltb p x) (rises_in n t q p) (and_both (eqb x x) (ltb p x) (eqb_refl x) (lt→ltb p x up)) k))

  rises_is : (q x : ℕ) → T (rises t q x) ↔ Rises q x
  rises_is q x = (rises_out x q x, rises-in x q x (le_refl x))

  -- ---- without a letter: by edges that rise, or with one between them that leads back
  abbrev Once : ℕ → ℕ → Type 0
  Once q x = Rises q x ⊎ ((p : ℕ) × (r : ℕ) × Returns t p r × Rises q p × Rises r x)

  once_on : (q x y : ℕ) → Quiet x y → Once q x → Once q y
  once_on q x y e (inl h) = inl (onward h e)
  once_on q x y e (inr (p, r, b, h, k)) = inr (p, r, b, h, onward k e)

  once_in : {q x : ℕ} → Reached Quiet (Add (Returns t) (Rises q)) x → Once q x
  once_in (itself (inl h)) = inl h
  once_in (itself {q = r} (inr (p, h, b))) = inr (p, r, b, h, itself refl)
  once_in {q} (onward {q = x} {r = y} c e) = once_on q x y e (once_in c)

  once_out : {q x : ℕ} → Once q x → Reached Quiet (Add (Returns t) (Rises q)) x
  once_out (inl h) = itself (inl h)
  once_out (inr (p, r, b, h, k)) = reached_more (λ y s. inr (p, h, subst (Returns t p) (sym s) b)) k

  once_is : (q x : ℕ) → Once q x ↔ Reaches t q x
  once_is q x =
      let rounds = tree_rounds t F (λ y. y ≡ q) x in (
        λ h. reached_map (silent_free t F) (λ y k. k) (rounds.0 (once_out h)),
        λ h. once_in (rounds.1 (reached_map (free_silent t F) (λ y k. k) h)),
      )

  abbrev over : (q x p r : ℕ) → Bool
  over q x p r = leb r p && (rises t q p && rises t r x)

  reaches_is : (q x : ℕ) → T (reaches t q x) ↔ Reaches t q x
  reaches_is q x = (λ h. (once_is q x).0 (there (or_split (rises t q x) (along t letterless (over q x)) h)), λ h. back ((once_is q x).1 h))
    where
      there : T (rises t q x) ⊎ T (along t letterless (over q x)) → Once q x
      there (inl h) = inl ((rises_is q x).0 h)
      there (inr h) =
          let (p, r, by, m) = (along_is letterless (over q x)).0 h in
          let c = and_split (leb r p) (rises t q p && rises t r x) m in
          let k = and_split (rises t q p) (rises t r x) c.1 in
          inr (p, r, falling p r by (leb→le r p c.0), (rises_is q p).0 k.0, (rises_is r x).0 k.1)

      back : Once q x → T (reaches t q x)
      back (inl h) = or_left (rises t q x) (along t letterless (over q x)) ((rises_is q x).1 h)
      back (inr (p, r, (k, i), h, g)) =
          or_right (rises t q x) (along t letterless (over q x))
          ((along_is letterless (over q x)).1 (
            p,
            r,
            silent_free t F p r (inr (k, i)),
            and_both (leb r p) (rises t q p && rises t r x) (le→leb r p (falls t F k p r i))
                (and_both (rises t q p) (rises t r x) ((rises_is q p).1 h) ((rises_is r x).1 g)),
          ))

  -- ---- by a byte
  steps_is : (b q : ℕ) (f : ℕ → Bool) → T (steps t b q f) ↔ ((p : ℕ) × Reaches t q p × ((r : ℕ) × Takes t b p r × T (f r)))
  steps_is b q f =
      let a = along_is (λ e. by_letter b e || by_loop b e) (λ p r. reaches t q p && f r) in (
        λ h. let (p, r, k, m) = a.0 h in let c = and_split (reaches t q p) (f r) m in (p, (reaches_is q p).0 c.0, (r, k, c.1)),
        λ (p, h, (r, k, m)). a.1 (p, r, k, and_both (reaches t q p) (f r) ((reaches_is q p).1 h) m),
      )

  -- ---- states follow, and some do
  follows_is : (q : ℕ) (bs rs : List ℕ) → T (follows t q bs rs) ↔ Follow t q bs rs
  follows_is q [] [] = reaches_is q (accepting t)
  follows_is q [] (r ∷ rs) = (λ h. h, λ h. h)
  follows_is q (b ∷ bs) [] = (λ h. h, λ h. h)
  follows_is q (b ∷ bs) (r ∷ rs) =
      let s = steps_is b q (λ x. eqb x r) in
      let i = follows_is r bs rs in (
        λ h.
            let c = and_split (steps t b q (λ x. eqb x r)) (follows t r bs rs) h in
            let (p, m, (x, k, e)) = s.0 c.0 in
            ((p, m, subst (Takes t b p) (eqb→eq x r e) k), i.0 c.1),
        λ ((p, m, k), f). and_both (steps t b q (λ x. eqb x r)) (follows t r bs rs) (s.1 (p, m, (r, k, eqb_refl r))) (i.1 f),
      )

  leads_is : (bs : List ℕ) (q : ℕ) → T (leads t bs q) ↔ Leads t bs q
  leads_is [] q = reaches_is q (accepting t)
  leads_is (b ∷ bs) q =
      let s = steps_is b q (leads t bs) in (
        λ h. let (p, m, (r, k, l)) = s.0 h in (p, m, (r, k, (leads_is bs r).0 l)),
        λ (p, m, (r, k, l)). s.1 (p, m, (r, k, (leads_is bs r).1 l)),
      )

  -- A PROPOSAL PASSES THE TEST EXACTLY IF IT GETS YES
  pub spelled_is : (text : List ℕ) (start stop : ℕ) (list : List ℕ) → T (is_spelled t text start stop list) ↔ Spelled t text start stop list
  spelled_is text start stop list =
      let inside = leb stop (length text) in
      let ordered = leb start stop in
      let each = eqb (length list) (stop - start) in
      let follow = follows t 0 (between text start stop) list in
      let f = follows_is 0 (between text start stop) list in (
        λ h.
            let i = and_split inside (ordered && (each && follow)) h in
            let o = and_split ordered (each && follow) i.1 in
            let e = and_split each follow o.1 in
            record {
              inside = leb→le stop (length text) i.0;
              ordered = leb→le start stop o.0;
              each = eqb→eq (length list) (stop - start) e.0;
              follow = f.0 e.1;
            },
        λ s.
            and_both inside (ordered && (each && follow)) (le→leb stop (length text) s.inside)
            (and_both ordered (each && follow) (le→leb start stop s.ordered) (and_both each follow (eq_test s.each) (f.1 s.follow))),
      )

-- ---- THE LATEST START IS ONE
latest_one : (t : Tree) (text : List ℕ) (i j stop : ℕ) → Latest t text i stop → Latest t text j stop → i ≡ j
latest_one t text i j stop L M = omega (arith, L.none_later j M.some.0 M.some.1, M.none_later i L.some.0 L.some.1)

module _ (t : Tree) (text : List ℕ) (stop : ℕ) where
  -- no spelling at all, or the latest start
  abbrev pub NoSpelling : Type 0
  NoSpelling = (start : ℕ) (list : List ℕ) → Spelled t text start stop list → ⊥

  abbrev pub Found : Option ℕ → Type 0
  Found none = NoSpelling
  Found (some start) = Latest t text start stop

  -- none from k on
  abbrev NoneFrom : ℕ → Type 0
  NoneFrom k = (j : ℕ) (list : List ℕ) → k ≤ j → Spelled t text j stop list → ⊥

  module _ (inside : stop ≤ length text) where
    found_at : (k : ℕ) → k ≤ stop → Leads t (between text k stop) 0 → NoneFrom (suc k) → Latest t text k stop
    found_at k h l f = record { some = (spelled_leads t text k stop).1 (inside, h, l); none_later = λ j list s. go j list s (le_or_lt j k) }
      where
        go : (j : ℕ) (list : List ℕ) → Spelled t text j stop list → (j ≤ k) ⊎ (k < j) → j ≤ k
        go j list s (inl x) = x
        go j list s (inr x) = absurd (f j list x s)

    none_here : (k : ℕ) → (Leads t (between text k stop) 0 → ⊥) → NoneFrom (suc k) → NoneFrom k
    none_here k g f j list h s = go (eq-or-lt_of_le h)
      where
        go : (k ≡ j) ⊎ (k < j) → ⊥
        go (inl e) = g (subst (λ (i : ℕ). Leads t (between text i stop) 0) (sym e) ((spelled_leads t text j stop).0 (list, s)).2)
        go (inr x) = f j list x s

    found_below : Full t → (k : ℕ) → k ≤ suc stop → NoneFrom k → Found (latest_below k t text stop)
    found_below F zero h f = λ start list s. f start list (omega arith) s
    found_below F (suc k) h f =
        let bs = between text k stop in
        cond_cases Found (leads t bs 0) (λ y. found_at k (omega arith) ((leads_is t F bs 0).0 y) f)
        (λ n. found_below F k (omega arith) (none_here k (λ l. subst T (is_false (leads t bs 0) n) ((leads_is t F bs 0).1 l)) f))

  -- THE SEARCH FINDS IT, OR THERE IS NO SPELLING
  pub latest_is : Full t → Found (latest t text stop)
  latest_is F = cond_cases Found (leb stop (length text))
      (λ h. found_below (leb→le stop (length text) h) F (suc stop) (le_refl (suc stop)) (λ j list l s. omega (arith, s.ordered)))
      (λ n start list s. subst T (is_false (leb stop (length text)) n) (le→leb stop (length text) s.inside))

  pub latest_some : Full t → (start : ℕ) → Latest t text start stop → latest t text stop ≡ some start
  latest_some F start L = go (latest t text stop) (latest_is F)
    where
      go : (o : Option ℕ) → Found o → o ≡ some start
      go none f = absurd (f start L.some.0 L.some.1)
      go (some i) M = λ k. some (latest_one t text i start stop M L k)

  pub latest_none : Full t → NoSpelling → latest t text stop ≡ none
  latest_none F f = go (latest t text stop) (latest_is F)
    where
      go : (o : Option ℕ) → Found o → o ≡ none
      go none g = refl
      go (some i) M = absurd (f i M.some.0 M.some.1)
