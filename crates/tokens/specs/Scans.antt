-- SCANS: what the code's scan stands for in the model, and what holds of every scan that the code comes to.
use Rattle.std.specs.Prelude.{◌≡◌, Bool, false, not, ◌&&◌, List, [], ◌∷◌, ℕ, zero, suc, ◌-◌, ◌≤◌, ◌<◌, T, get_or, is_some, length, None, set}
use Rattle.std.specs.Option.{unwrap_or}
use Rattle.model.specs.Models.LayOut.{check, outside, step}
use Rattle.model.specs.Models.LayOut as model
use Rattle.model.specs.Models.Tokens as tokens
use Rattle.tokens.specs.Tokens.{token_of}
use Rattle.tokens.specs.declared.Frame.{Frame}
use Rattle.tokens.specs.declared.Next.{Next}
use Rattle.tokens.specs.declared.Scan.{Scan}
use Rattle.tokens.specs.declared.token.Token.{Token}

abbrev pub frame_of : Frame → model.Frame
frame_of f = record {
  start = f.start;
  barred = is_some f.first_end;
  first_end = unwrap_or f.first_end 0;
  alternative = f.alternative;
  empty_before = f.empty_before;
  empty_outside = f.empty_outside;
}

-- what stands past the row's end
abbrev pub no_frame : Frame
no_frame = record { start = 0; first_end = None; alternative = 0; empty_before = false; empty_outside = false }

-- the first n frames of the row, the last of them innermost
abbrev pub stack_of : List Frame → ℕ → List model.Frame
stack_of fs zero = []
stack_of fs (suc n) = frame_of (get_or fs n no_frame) ∷ stack_of fs n

-- the code's scan and the row of frames beside it
pub record Known : Type 0 where
  pub position : ℕ
  pub no_item : Bool
  pub can_be_empty : Bool
  pub frames : List Frame
  pub depth : ℕ

abbrev pub with_frames : Scan → List Frame → Known
with_frames q fs = record { position = q.position; no_item = q.no_item; can_be_empty = q.can_be_empty; frames = fs; depth = q.depth }

abbrev pub scan_of : Known → model.Scan
scan_of q = model.scan q.position q.no_item q.can_be_empty (stack_of q.frames q.depth)

abbrev pub is_ended : Known → Bool
is_ended q = outside (scan_of q).stack && not q.no_item

-- ---- the places of the open unions lie behind the position, and no more than eight are open
abbrev pub Behind : ℕ → List model.Frame → Type 0
Behind p [] = Unit
Behind p (f ∷ st) = (f.start ≤ p) × (f.first_end ≤ p) × (f.alternative ≤ p) × Behind p st

pub record Sane (q : model.Scan) : Type 0 where
  pub behind : Behind q.position q.stack
  pub shallow : length q.stack ≤ 8

-- a token that fits may be passed: the next state is one of 512
pub record Ready (q : Known) (y : Token) : Type 0 where
  pub sane : Sane (scan_of q)
  pub fits : T (check (token_of y) (scan_of q))
  pub below : q.position < 511

-- the frame of a union that opens here
abbrev pub opened_at : Scan → model.Frame
opened_at q = model.opened (scan_of (with_frames q []))

-- ---- what the code's functions say, which see of the row of frames only the innermost
abbrev pub Innermost : Scan → Frame → List Frame → Type 0
Innermost q f fs = 0 < q.depth → get_or fs (q.depth - 1) no_frame ≡ f

abbrev pub BeginSays : Scan → Type 0
BeginSays q = (fs : List Frame) → scan_of (with_frames q fs) ≡ model.begin

abbrev pub FitSays : Scan → Frame → tokens.Token → Bool → Type 0
FitSays q f y r = (fs : List Frame) → Innermost q f fs → r ≡ check y (scan_of (with_frames q fs))

abbrev pub EndSays : Scan → Bool → Type 0
EndSays q r = (fs : List Frame) → r ≡ is_ended (with_frames q fs)

pub record ReadyAt (q : Scan) (f : Frame) (y : Token) : Type 0 where
  pub frames : List Frame
  pub top : Innermost q f frames
  pub ready : Ready (with_frames q frames) y

-- the step: the new scan over the row in which one frame is stored
pub record StepSays (q : Scan) (f : Frame) (y : tokens.Token) (n : Next) : Type 0 where
  pub inside : n.place < 9
  pub steps : (fs : List Frame) → length fs ≡ 9 → Innermost q f fs
      → scan_of (with_frames n.scan (set fs n.place n.frame)) ≡ step y (scan_of (with_frames q fs))
