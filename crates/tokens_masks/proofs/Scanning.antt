-- THE SCAN OVER A TAPE, as the loop goes: before token i the scan finds of what is still to come what the whole tape is and how deep it reaches, and in
-- every plane what is marked and what is still to come make the whole.
use mathlib.Core.Path.{◌≡◌, refl, sym, ap, ap₂, ◌∙◌, subst}
use mathlib.Core.Bool.{Bool, true, false, cond}
use mathlib.Core.List.{List}
use Prim.Native.Nat.{ℕ, ◌+◌, ◌-◌, ◌≤◌, ◌<◌}
use native.Mathlib.Omega.{arith}
use lib.Dec.{T}
use lib.ListN.{get_or, length, length-set, set, take}
use lib.Seq.{get_or-take, length-take-le}
use Rattle.std.specs.Prelude.{Option, None, Some, is_some}
use Rattle.model.specs.Models.LayOut.{begin, check, number, reach, strokes, Plane}
use Rattle.tokens_masks.specs.Masks.{Blank, MarkSays, table_in}
use Rattle.tokens.specs.Scans.{EndSays, FitSays, Innermost, no_frame, ReadyAt, scan_of, StepSays, with_frames}
use Rattle.tokens_masks.specs.Tables.{blank, paint_all}
use Rattle.tokens_masks.specs.Tapes.{deeper_by, is_tree, on_tape, PlanesHold, ScanLays, tokens_of}
use Rattle.tokens.specs.Kinds.{read_kind}
use Rattle.tokens.specs.Tokens.{token_of}
use Rattle.tokens_masks.specs.declared.Tape.{Tape}
use Rattle.tokens.specs.declared.Frame.{Frame}
use Rattle.tokens.specs.declared.Next.{Next}
use Rattle.tokens.specs.declared.Scan.{Scan}
use Rattle.tokens.specs.declared.token.Token.{Token}
use Rattle.tokens_masks.proofs.Along.{Along, along_begin, along_depth, along_end, along_misfit, along_ready, along_step}
use Rattle.tokens_masks.proofs.InWords.{paint_held, paint_long}
use Rattle.tokens_masks.proofs.Painting.{Painting, painting_begin, painting_end, painting_step}
use Rattle.tokens_masks.proofs.Reaching.{Reaching, reaching_begin, reaching_end, reaching_step}
use Rattle.tokens_masks.proofs.Within.{strokes_within}

-- ---- the loop
-- what it goes over, the kinds on the tape
abbrev pub kinds_on : Tape → List ℕ
kinds_on t = take t.length t.kinds

pub record Scanning (t : Tape) (ms : List ℕ) (fs : List Frame) (q : Scan) (deepest i : ℕ) : Type 0 where
  pub nine : length fs ≡ 9
  pub long : length ms ≡ 936
  pub along : Along t (with_frames q fs) i
  pub reaching : Reaching t (with_frames q fs) i deepest
  pub painting : (w : Plane) → Painting t (with_frames q fs) i w (table_in ms (number w))

-- the frame that is read
pub top_here : (q : Scan) (fs : List Frame) {k : ℕ} → k ≡ q.depth - 1 → Innermost q (get_or fs k no_frame) fs
top_here q fs e = λ h. ap (λ (k : ℕ). get_or fs k no_frame) (sym e)

pub scanning_begin : {t : Tape} {ms : List ℕ} {q : Scan} (fs : List Frame) → length t.kinds ≡ 512 → t.length ≤ 511 → length ms ≡ 936 → Blank ms
    → length fs ≡ 9 → scan_of (with_frames q fs) ≡ begin → Scanning t ms fs q 0 0
scanning_begin {t} {ms} {q} fs k h long B n e = record {
  nine = n;
  long = long;
  along = along_begin t (with_frames q fs) k h e;
  reaching = reaching_begin t (with_frames q fs) e;
  painting = λ w. painting_begin t (with_frames q fs) w (table_in ms (number w)) e (B w);
}

module _ {t : Tape} {ms : List ℕ} {fs : List Frame} {q : Scan} {deepest i : ℕ} (S : Scanning t ms fs q deepest i) where
  pub scanning_depth : q.depth ≤ 8
  scanning_depth = along_depth t (with_frames q fs) i S.along

  -- a tape that is none, and one that is
  not_tree : is_tree t ≡ false → (None ≡ on_tape t) × ScanLays t ms
  not_tree e = (sym (ap (λ (b : Bool). cond b (Some (reach (tokens_of t) begin)) None) e), λ z w. absurd (subst T e z))

  all_on : length (kinds_on t) ≡ t.length
  all_on = length-take-le t.length t.kinds (omega (arith, S.along.whole, S.along.short))

  module _ {ended : Bool} (end : length (kinds_on t) ≤ i) (says : EndSays q ended) where
    past : t.length ≤ i
    past = omega (arith, all_on)

    pub scanning_other : ended ≡ false → (None ≡ on_tape t) × ScanLays t ms
    scanning_other e = not_tree (along_end t (with_frames q fs) i S.along past ∙ sym (says fs) ∙ e)

    pub scanning_tree : ended ≡ true → (Some deepest ≡ on_tape t) × ScanLays t ms
    scanning_tree e =
        let is = along_end t (with_frames q fs) i S.along past ∙ sym (says fs) ∙ e in (
          sym (ap₂ (λ (b : Bool) (d : ℕ). cond b (Some d) None) is (reaching_end t (with_frames q fs) i S.along deepest S.reaching past)),
          λ z w. sym (ap (λ (b : Bool). cond b (paint_all (tokens_of t) begin w blank) blank) is
              ∙ painting_end t (with_frames q fs) i S.along w (table_in ms (number w)) (S.painting w) past),
        )

  -- at the token y, with the innermost frame, which stands at place k
  module _ {y : Token} {k : ℕ} {fitting : Bool} (on : i < length (kinds_on t)) (kind : y ≡ read_kind (get_or (kinds_on t) i 0)) (here : k ≡ q.depth - 1)
      (says : FitSays q (get_or fs k no_frame) (token_of y) fitting) where
    I : Innermost q (get_or fs k no_frame) fs
    I = top_here q fs here

    h : i < t.length
    h = omega (arith, all_on)

    e : y ≡ read_kind (get_or t.kinds i 0)
    e = kind ∙ ap read_kind (get_or-take t.length t.kinds i 0 h)

    pub scanning_misfit : fitting ≡ false → (None ≡ on_tape t) × ScanLays t ms
    scanning_misfit f = not_tree (along_misfit t (with_frames q fs) i S.along y h e (sym (says fs I) ∙ f))

    module _ (fits : fitting ≡ true) where
      f : check (token_of y) (scan_of (with_frames q fs)) ≡ true
      f = sym (says fs I) ∙ fits

      pub scanning_ready : ReadyAt q (get_or fs k no_frame) y
      scanning_ready = record { frames = fs; top = I; ready = along_ready t (with_frames q fs) i S.along y h f }

      pub scanning_step : {n : Next} {d : ℕ} {ms' : List ℕ} → StepSays q (get_or fs k no_frame) (token_of y) n → d ≡ deeper_by deepest q.depth (token_of y)
          → MarkSays q (get_or fs k no_frame) y ms ms' → Scanning t ms' (set fs n.place n.frame) n.scan d (i + 1)
      scanning_step {n} {d} {ms'} N D M =
          let P = M fs I in
          let known = with_frames q fs in
          let next = with_frames n.scan (set fs n.place n.frame) in
          let stepped = N.steps fs S.nine I in
          let A = S.along in
          let ss = strokes (token_of y) (scan_of known) in
          let W = strokes_within (token_of y) (scan_of known) A.sane (omega (arith, A.at, A.short, h)) in
          record {
            nine = length-set fs n.place n.frame ∙ S.nine;
            long = ap length P ∙ paint_long ss ms ∙ S.long;
            along = along_step t known i A y h e next f stepped;
            reaching = reaching_step t known i A deepest S.reaching y h e next stepped d D;
            painting = λ w. painting_step t known i A w (table_in ms (number w)) (S.painting w) y h e next stepped (table_in ms' (number w))
                (ap (λ (z : List ℕ). table_in z (number w)) P ∙ paint_held w ss ms S.long W);
          }

-- ---- what the scan told
pub tree_told : (b : Bool) (x d : ℕ) → cond b (Some x) None ≡ Some d → T b
tree_told true x d q = tt
tree_told false x d q = cc

none_told : (b : Bool) (x : ℕ) → is_some (cond b (Some x) None) ≡ b
none_told true x = refl
none_told false x = refl

module _ (t : Tape) {told : Option ℕ} (e : told ≡ on_tape t) where
  pub planes_other : (ms : List ℕ) → is_some told ≡ false → Blank ms → PlanesHold t ms
  planes_other ms q B = λ w.
      B w
      ∙ sym (ap (λ (b : Bool). cond b (paint_all (tokens_of t) begin w blank) blank)
      (sym (none_told (is_tree t) (reach (tokens_of t) begin)) ∙ ap is_some (sym e) ∙ q))
