-- EACH UNION'S OWN MARK, as the loop over a tree's tape goes: the kinds filled so far and the own marks of the tokens still to come make those of the
-- whole tape.
use mathlib.Core.Path.{◌≡◌, refl, sym, ap, ap₂, ◌∙◌, subst}
use mathlib.Core.Bool.{Bool, true, false, ◌||◌}
use mathlib.Core.List.{List, [], ◌∷◌, ◌++◌, append-nil}
use Prim.Native.Nat.{ℕ, ◌+◌, ◌-◌, ◌≤◌, ◌<◌}
use native.Mathlib.Numerals.{add-one}
use native.Mathlib.Omega.{arith}
use lib.Dec.{T, leb, leb→le}
use lib.ListN.{get_or, length, length-set, set, take}
use lib.Seq.{take-suc-set}
use Rattle.model.specs.Models.LayOut.{begin, check, empty_in, own, owns, valid}
use Rattle.model.specs.Models.LayOut as model
use Rattle.model.specs.Models.Tokens.{a_close, kept}
use Rattle.model.specs.Models.Tokens as tokens
use Rattle.model.proofs.Laws.Bool.{and_split}
use Rattle.tokens.specs.Scans.{Innermost, no_frame, Ready, ReadyAt, scan_of, StepSays, stack_of, with_frames}
use Rattle.tokens.specs.Tokens.{mark_of, token_of}
use Rattle.tokens.specs.Kinds.{read_kind}
use Rattle.tokens.specs.declared.Frame.{Frame}
use Rattle.tokens.specs.declared.Next.{Next}
use Rattle.tokens.specs.declared.Scan.{Scan}
use Rattle.tokens.specs.declared.token.Token.{Token}
use Rattle.tokens.specs.declared.token.Token.TheVariants.{Bar, Close, Letter, Open}
use Rattle.tokens.proofs.Scans.{ready_close, stack_is}
use Rattle.tokens_masks.specs.Tapes.{is_tree, read_kinds, tokens_of}
use Rattle.tokens_masks.specs.declared.Tape.{Tape}
use Rattle.tokens_masks.proofs.Along.{Along, along_begin, along_misfit, along_ready, along_step, from, from_cons, from_end, tape_of}
use Rattle.writing.specs.Work.{OwnMarks}

-- where a token fits, the innermost frame tells whether an alternative can be empty
own_here : (q : Scan) (fs : List Frame) (top : Frame) (y : Token) → Innermost q top fs → Ready (with_frames q fs) y
    → own (token_of y) (top.empty_before || q.can_be_empty) ≡ own (token_of y) (empty_in q.can_be_empty (stack_of fs q.depth))
own_here q fs top (Letter r) I R = refl
own_here q fs top Open I R = refl
own_here q fs top Bar I R = refl
own_here q fs top (Close m) I R =
    ap (λ (st : List model.Frame). a_close (kept (mark_of m) (empty_in q.can_be_empty st)))
    (sym (stack_is q fs top I (ready_close (with_frames q fs) (Close m) R m refl)))

-- one more kind
read_more : (ks : List ℕ) (k : ℕ) (l : List tokens.Token) → read_kinds (ks ++ (k ∷ [])) ++ l ≡ read_kinds ks ++ (token_of (read_kind k) ∷ l)
read_more [] k l = refl
read_more (j ∷ ks) k l = ap (λ (z : List tokens.Token). token_of (read_kind j) ∷ z) (read_more ks k l)

-- ---- the loop, before token i
pub record Owning (t : Tape) (kinds : List ℕ) (fs : List Frame) (q : Scan) (i : ℕ) : Type 0 where
  pub nine : length fs ≡ 9
  pub room : length kinds ≡ 512
  pub along : Along t (with_frames q fs) i
  pub marks : read_kinds (take i kinds) ++ owns (from t i) (scan_of (with_frames q fs)) ≡ owns (tokens_of t) begin

module _ {t : Tape} (is : T (is_tree t)) where
  pub owning_begin : {kinds : List ℕ} {q : Scan} (fs : List Frame) → length t.kinds ≡ 512 → length kinds ≡ 512 → length fs ≡ 9
      → scan_of (with_frames q fs) ≡ begin → Owning t kinds fs q 0
  owning_begin {q = q} fs w r n e = record {
    nine = n;
    room = r;
    along = along_begin t (with_frames q fs) w (leb→le t.length 511 (and_split (leb t.length 511) (valid (tokens_of t) begin) is).0) e;
    marks = ap (owns (tokens_of t)) e;
  }

  module _ {kinds : List ℕ} {fs : List Frame} {q : Scan} {i : ℕ} (O : Owning t kinds fs q i) where
    pub owning_end : t.length ≤ i → OwnMarks t (tape_of kinds t.length)
    owning_end h =
        let e : t.length ≡ i = omega (arith, O.along.inside) in record {
          long = refl;
          tokens_are =
              ap (λ (n : ℕ). read_kinds (take n kinds)) e
              ∙ sym (append-nil (read_kinds (take i kinds)))
              ∙ ap (λ (l : List tokens.Token). read_kinds (take i kinds) ++ owns l (scan_of (with_frames q fs))) (sym (from_end t (with_frames q fs) i O.along h))
              ∙ O.marks;
        }

    -- at the token y, with the innermost frame, which stands at k
    module _ {y : Token} {k : ℕ} (h : i < t.length) (e : y ≡ read_kind (get_or t.kinds i 0)) (here : k ≡ q.depth - 1) where
      abbrev top : Frame
      top = get_or fs k no_frame

      I : Innermost q top fs
      I = λ d. ap (λ (n : ℕ). get_or fs n no_frame) (sym here)

      fits : check (token_of y) (scan_of (with_frames q fs)) ≡ true
      fits = go (check (token_of y) (scan_of (with_frames q fs))) refl
        where
          go : (b : Bool) → check (token_of y) (scan_of (with_frames q fs)) ≡ b → b ≡ true
          go true c = refl
          go false c = absurd (subst T (along_misfit t (with_frames q fs) i O.along y h e c) is)

      ready : Ready (with_frames q fs) y
      ready = along_ready t (with_frames q fs) i O.along y h fits

      pub owning_ready : ReadyAt q (get_or fs k no_frame) y
      owning_ready = record { frames = fs; top = I; ready = ready }

      pub owning_step : {n : Next} (own_kind : ℕ) → StepSays q (get_or fs k no_frame) (token_of y) n
          → token_of (read_kind own_kind) ≡ own (token_of (read_kind (get_or t.kinds i 0))) ((get_or fs k no_frame).empty_before || q.can_be_empty)
          → Owning t (set kinds i own_kind) (set fs n.place n.frame) n.scan (i + 1)
      owning_step {n} own_kind N K =
          let known = with_frames q fs in
          let next = with_frames n.scan (set fs n.place n.frame) in
          let stepped = N.steps fs O.nine I in
          let rest = from t (i + 1) in
          record {
            nine = length-set fs n.place n.frame ∙ O.nine;
            room = length-set kinds i own_kind ∙ O.room;
            along = along_step t known i O.along y h e next fits stepped;
            marks =
                ap (λ (l : List ℕ). read_kinds l ++ owns rest (scan_of next))
                (ap (λ (m : ℕ). take m (set kinds i own_kind)) (add-one i) ∙ take-suc-set kinds i own_kind (omega (arith, O.room, O.along.short)))
                ∙ read_more (take i kinds) own_kind (owns rest (scan_of next))
                ∙ ap₂ (λ (x : tokens.Token) (z : model.Scan). read_kinds (take i kinds) ++ (x ∷ owns rest z))
                (K ∙ ap (λ (z : Token). own (token_of z) (top.empty_before || q.can_be_empty)) (sym e) ∙ own_here q fs top y I ready) stepped
                ∙ ap (λ (l : List tokens.Token). read_kinds (take i kinds) ++ owns l (scan_of known)) (sym (from_cons t known i O.along y h e))
                ∙ O.marks;
          }
