-- THE RUN OVER A STRETCH ON AN IMAGE'S WORDS: from any mask of the tree's states it finds the ends of the stretch and leaves its live states, for the first
-- W words of the masks of work hold the tree's sets.
use mathlib.Core.Path.{◌≡◌, refl, sym, ap, ap₂, ◌∙◌, subst}
use mathlib.Core.Logic.{◌⊎◌, inl, inr}
use mathlib.Core.Bool.{Bool, false}
use mathlib.Core.List.{List, [], ◌∷◌}
use Prim.Native.Nat.{ℕ, ◌-◌, ◌*◌, ◌≤◌, ◌<◌}
use native.Mathlib.Nat.{le_refl}
use native.Mathlib.Omega.{arith}
use lib.ListN.{get_or, length, replicate, set, take}
use lib.Seq.{length-take-le, sets, take_all, take_at}
use Rattle.model.specs.Answers.{ImageOf}
use Rattle.model.specs.Bits.{bit}
use Rattle.model.specs.Edges.{accepting, depth, states}
use Rattle.model.specs.Image.{width}
use Rattle.model.specs.Live.{LiveFrom}
use Rattle.model.specs.Models.Sections.{depth_word, state_word}
use Rattle.model.specs.Models.Run.{ends_after, Masks, run_from}
use Rattle.model.specs.Models.Words.{Fit, value}
use Rattle.model.specs.Tree.{Tree}
use Rattle.model.specs.Watch.{In, IsMask, MaskOf}
use Rattle.model.proofs.Image.Decided.{rule_full}
use Rattle.model.proofs.Image.Rows.{room}
use Rattle.model.proofs.Image.SameBits.{fit_take}
use Rattle.model.proofs.Laws.Bool.{le_or_lt}
use Rattle.model.proofs.Laws.Stores.{sets_fit}
use Rattle.model.proofs.Watch.Masks.{holds_mask}
use Rattle.model.proofs.Watch.Stretch.{stretch_ends, stretch_mask}
use Rattle.model.proofs.Words.Full.{Full}
use Rattle.model.proofs.Words.Holds.{Holds}
use Rattle.model.proofs.Words.RowBits.{row_past}
use Rattle.model.proofs.Words.Run.{Bytes, Carry}
use Rattle.run_word.specs.Ends.{RanOver}
use Rattle.run_word.proofs.Laws.Back.{BackCut}
use Rattle.run_word.proofs.Laws.Cut.{Cut, take_bit}
use Rattle.run_word.specs.One.{one_masks}
use Rattle.image_sections.specs.Sections.{Placed, width_of}
use Rattle.image_sections.specs.declared.Sections.{Sections}
use Rattle.image_sections.proofs.Laws.Within.{own_depth, own_placed, own_states, own_width}
use Rattle.image_sections.proofs.Laws.OfTree.{as_arcs, image_placed, states_is}
use Rattle.run.specs.Says.{Gone, StatesAre}
use Rattle.run.specs.Work.{masks_of, row_at, rule_masks, Tabled}
use Rattle.run.proofs.Image.Carry.{carried}
use Rattle.run.proofs.Image.Live.{depth_is}
use Rattle.run.proofs.Laws.One.{mask_back, mask_cut, one as one-wide}
use Rattle.run.proofs.Laws.Table.{back_cut, work_cut}

-- ---- the first W words of eight
module _ (m : ℕ) (few : m ≤ 512) where
  abbrev W : ℕ
  W = width m

  first_holds : (xs : List ℕ) (f : ℕ → Bool) → Holds m 8 xs f → Holds m W (take W xs) f
  first_holds xs f H = record {
    near = record { len = long; fit = fits; bits = λ x l. sym (take_bit W xs x (omega arith)) ∙ H.near.bits x l };
    none = λ x l. go x l (le_or_lt (64 * W) x);
  }
    where
      long : length (take W xs) ≡ W
      long = length-take-le W xs (omega (arith, H.near.len))

      fits : Fit (take W xs)
      fits = fit_take W xs H.near.fit

      go : (x : ℕ) → m ≤ x → (64 * W ≤ x) ⊎ (x < 64 * W) → bit (value (take W xs)) x ≡ false
      go x l (inl h) = row_past (take W xs) x fits (omega (arith, long))
      go x l (inr h) = sym (take_bit W xs x h) ∙ H.none x l

  module _ (t : Tree) (M N : Masks) (C : Carry m 8 t M) (K : Cut W (depth t) M N) (B : BackCut W (depth t) M N) where
    one : (xs ys : List ℕ) (f : ℕ → Bool) → take W xs ≡ ys → Holds m 8 xs f → Holds m W ys f
    one xs ys f e H = subst (λ (l : List ℕ). Holds m W l f) e (first_holds xs f H)

    first_carry : Carry m W t N
    first_carry = record {
      room = room m;
      whole = C.whole;
      letters = λ b l. one _ _ _ (K.letters b l) (C.letters b l);
      loops = λ b l. one _ _ _ (K.loops b l) (C.loops b l);
      scatter-block = λ k l. one _ _ _ (K.scatters k 0 l (omega arith)) (C.scatter-block k l);
      scatter-source = λ k l. one _ _ _ (K.scatters k 1 l (omega arith)) (C.scatter-source k l);
      scatter-target = λ k l. one _ _ _ (K.scatters k 2 l (omega arith)) (C.scatter-target k l);
      gather-block = λ k l. one _ _ _ (K.gathers k 0 l (omega arith)) (C.gather-block k l);
      gather-source = λ k l. one _ _ _ (K.gathers k 1 l (omega arith)) (C.gather-source k l);
      gather-target = λ k l. one _ _ _ (K.gathers k 2 l (omega arith)) (C.gather-target k l);
      propagate-block = λ k l. one _ _ _ (K.propagates k 0 l (omega arith)) (C.propagate-block k l);
      propagate-source = λ k l. one _ _ _ (K.propagates k 1 l (omega arith)) (C.propagate-source k l);
      propagate-target = λ k l. one _ _ _ (K.propagates k 2 l (omega arith)) (C.propagate-target k l);
      back-source = λ k l. one _ _ _ (B.backs k 0 l (omega arith)) (C.back-source k l);
      back-target = λ k l. one _ _ _ (B.backs k 1 l (omega arith)) (C.back-target k l);
      start = one _ _ _ K.start C.start;
    }

-- masks of which the first n words are others', the back edges' too
abbrev Cuts : (n d : ℕ) (M N : Masks) → Type 0
Cuts n d M N = Cut n d M N × BackCut n d M N

-- a row that has the states of S is the mask of S, of its first words
pub states_mask : (t : Tree) → states t ≤ 512 → (words : List ℕ) (S : ℕ → Type 0) → length words ≡ 8 → Fit words → StatesAre t words S
    → MaskOf (states t) S (take (width (states t)) words)
states_mask t few words S eight fits A = record {
  set = λ q. bit (value words) q;
  is = A.within;
  laid = holds_mask (states t) (take (width (states t)) words) (λ q. bit (value words) q)
      (first_holds (states t) few words (λ q. bit (value words) q)
      (record { near = record { len = eight; fit = fits; bits = λ x l. refl }; none = A.beyond }));
}

-- WHAT A STRETCH SAYS, from what the loop made with masks that hold the tree's sets
pub gone : (t : Tree) (F : Full t) (W d last : ℕ) (N : Masks) (C : Carry (states t) W t N) → W ≡ width (states t) → d ≡ depth t → last ≡ accepting t
    → (mask : List ℕ) → Fit mask → IsMask (states t) mask → (place : ℕ) (stretch : List ℕ) → Bytes stretch → (live before words : List ℕ) (total : ℕ) (after : List ℕ)
    → live ≡ mask → RanOver N W d last place 0 stretch live before words total after → Gone t mask place stretch before words total after
gone t F W d last N C long deep ends mask fits I place stretch B live before words total after same G =
    let e : ends_after N d last place live stretch ≡ ends_after N (depth t) (accepting t) place mask stretch =
    ap₂ (λ (x y : ℕ). ends_after N x y place live stretch) deep ends ∙ ap (λ (x : List ℕ). ends_after N (depth t) (accepting t) place x stretch) same in
    let r : run_from N d live stretch ≡ run_from N (depth t) mask stretch = ap₂ (λ (x : ℕ) (y : List ℕ). run_from N x y stretch) deep same in
    let found = ends_after N (depth t) (accepting t) place mask stretch in
    record {
      found = found;
      ends = stretch_ends t F W N C mask long fits I stretch B place;
      counted = omega (arith, G.counted, ap length e);
      stored = G.stored ∙ ap (sets before 0) e ∙ sets_fit before found;
      live = subst (MaskOf (states t) (LiveFrom t (In mask) stretch)) (sym (ap (λ (n : ℕ). take n words) (sym long) ∙ G.runs ∙ r)) (stretch_mask t F W N C mask long fits I stretch B);
    }

-- ---- words that are an image, with what code has read of them and the table that it has made
module _ (ws : List ℕ) (t : Tree) (I : ImageOf ws t) (fits : Fit ws) (table : List (List ℕ)) (E : Tabled ws (width_of ws) (depth_word ws) table) where
  abbrev wide : ℕ
  wide = width (states t)

  wide_is : width_of ws ≡ wide
  wide_is = ap width_of (as_arcs ws t I)

  work : Cuts wide (depth t) (masks_of ws) (rule_masks ws wide table)
  work =
      let S = own_placed (image_placed ws t I) in
      subst (λ (n : ℕ). Cuts wide n (masks_of ws) (rule_masks ws wide table)) (depth_is ws t I)
      (subst (λ (n : ℕ). Cuts n (depth_word ws) (masks_of ws) (rule_masks ws n table)) wide_is
      (work_cut ws fits S table E (width_of ws), back_cut ws fits S table E (width_of ws) (le_refl (width_of ws))))

  pub went : {p : Sections} → Placed ws p → (mask : List ℕ) → Fit mask → IsMask (states t) mask → (place : ℕ) (stretch : List ℕ) → Bytes stretch
      → (first before words : List ℕ) (total : ℕ) (after : List ℕ) → first ≡ row_at mask 0 p.width
      → RanOver (rule_masks ws p.width table) p.width p.depth (p.states - 1) place 0 stretch (take p.width first) before words total after
      → Gone t mask place stretch before words total after
  went {p} P mask fit M place stretch B first before words total after e G =
      gone t (rule_full t I.is_rule) wide p.depth (p.states - 1) (rule_masks ws wide table) (first_carry (states t) I.few t (masks_of ws) (rule_masks ws wide table) (carried ws t I) work.0 work.1) refl
      (own_depth P ∙ depth_is ws t I) last_is mask fit M place stretch B (take wide first) before words total after row_is
      (subst (λ (n : ℕ). RanOver (rule_masks ws n table) n p.depth (p.states - 1) place 0 stretch (take n first) before words total after) w G)
    where
      w : p.width ≡ wide
      w = own_width P ∙ wide_is

      last_is : p.states - 1 ≡ accepting t
      last_is = omega (arith, own_states P, states_is ws t I)

      row_is : take wide first ≡ mask
      row_is =
          ap (take wide) (e ∙ ap (row_at mask 0) w)
          ∙ take_at (take wide mask) (replicate (8 - wide) 0) wide (length-take-le wide mask (omega (arith, M.long)))
          ∙ take_all wide mask (omega (arith, M.long))

-- ---- A RULE OF ONE WORD, on the image's own words
one_word : (mask : List ℕ) → length mask ≡ 1 → get_or mask 0 0 ∷ [] ≡ mask
one_word [] e = absurd (omega arith)
one_word (x ∷ []) e = refl
one_word (x ∷ y ∷ mask) e = absurd (omega arith)

module _ (ws : List ℕ) (t : Tree) (I : ImageOf ws t) (few : state_word ws ≤ 64) where
  abbrev wide₁ : ℕ
  wide₁ = width (states t)

  one_is : 1 ≡ wide₁
  one_is = sym (one-wide ws (own_placed (image_placed ws t I)) few) ∙ ap width_of (as_arcs ws t I)

  word_work : Cuts wide₁ (depth t) (masks_of ws) (one_masks ws)
  word_work =
      let S = own_placed (image_placed ws t I) in
      subst (λ (n : ℕ). Cuts wide₁ n (masks_of ws) (one_masks ws)) (depth_is ws t I)
      (subst (λ (n : ℕ). Cuts n (depth_word ws) (masks_of ws) (one_masks ws)) one_is (mask_cut ws S few, mask_back ws S few))

  pub went_word : {p : Sections} → Placed ws p → (mask : List ℕ) → Fit mask → IsMask (states t) mask → (place : ℕ) (stretch : List ℕ) → Bytes stretch → {r : ℕ} (before : List ℕ)
      (total : ℕ) (after : List ℕ) → RanOver (one_masks ws) 1 p.depth (p.states - 1) place 0 stretch (get_or mask 0 0 ∷ []) before (r ∷ []) total after
      → Gone t mask place stretch before (set (replicate 8 0) 0 r) total after
  went_word {p} P mask fit M place stretch B {r} before total after G =
      gone t (rule_full t I.is_rule) wide₁ p.depth (p.states - 1) (one_masks ws)
      (first_carry (states t) I.few t (masks_of ws) (one_masks ws) (carried ws t I) word_work.0 word_work.1) refl (own_depth P ∙ depth_is ws t I) last_is mask fit M place stretch B
      (get_or mask 0 0 ∷ []) before (set (replicate 8 0) 0 r) total after (one_word mask (M.long ∙ sym one_is))
      (subst (λ (n : ℕ). RanOver (one_masks ws) n p.depth (p.states - 1) place 0 stretch (get_or mask 0 0 ∷ []) before (set (replicate 8 0) 0 r) total after) one_is
      (record { counted = G.counted; stored = G.stored; runs = G.runs }))
    where
      last_is : p.states - 1 ≡ accepting t
      last_is = omega (arith, own_states P, states_is ws t I)
