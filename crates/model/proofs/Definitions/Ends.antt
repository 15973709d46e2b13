-- Place p is an end exactly if the accepting state is live after p bytes: the proof that document 01 asks for. What the arcs lead to after a text
-- is what ends with a stretch that the rule spells, and what they lead to is what is live.
use mathlib.Core.Path.{◌≡◌, sym, ap, ◌∙◌}
use mathlib.Core.Logic.{◌↔◌}
use mathlib.Core.List.{List, ◌++◌, append_assoc}
use Prim.Native.Nat.{ℕ, ◌≤◌}
use native.Mathlib.Omega.{arith}
use lib.ListN.{length, take, drop, length-append, take-append-drop}
use lib.Seq.{take_at, length-take-le}
use Rattle.model.specs.Tree.{Tree}
use Rattle.model.specs.Grammar.{IsRule}
use Rattle.model.specs.Edges.{accepting}
use Rattle.model.specs.Live.{Live}
use Rattle.model.specs.Ends.{End}
use Rattle.model.proofs.Definitions.Live.{live_is}
use Rattle.model.proofs.Ends.Stops.{end_is, StopsAt}
use Rattle.model.proofs.Image.Decided.{rule_full}
use Rattle.model.proofs.Words.Full.{Full}

-- an end is a place of the text at which a spelled stretch stops
pub end_stops : (t : Tree) (text : List ℕ) (p : ℕ) → End t text p ↔ ((p ≤ length text) × StopsAt t text p)
end_stops t text p = (there, back)
  where
    there : End t text p → (p ≤ length text) × StopsAt t text p
    there e = (
      omega (arith, e.stops, ap length whole ∙ length-append (e.before ++ e.stretch) e.after),
      (e.before, e.stretch, ap (take p) whole ∙ take_at (e.before ++ e.stretch) e.after p (sym e.stops), e.spelled),
    )
      where
        whole : text ≡ (e.before ++ e.stretch) ++ e.after
        whole = e.cut ∙ sym (append_assoc e.before e.stretch e.after)

    back : (p ≤ length text) × StopsAt t text p → End t text p
    back (l, (a, v, c, h)) = record {
      before = a;
      stretch = v;
      after = drop p text;
      cut = sym (take-append-drop p text) ∙ ap (λ (x : List ℕ). x ++ drop p text) c ∙ append_assoc a v (drop p text);
      stops = sym (length-take-le p text l) ∙ ap length c;
      spelled = h;
    }

full_live : (t : Tree) → Full t → (text : List ℕ) (p : ℕ) → End t text p ↔ ((p ≤ length text) × Live t (take p text) (accepting t))
full_live t F text p = (
  λ e. let s = (end_stops t text p).0 e in (s.0, (live_is t F (take p text) (accepting t)).0 ((end_is t F text p).1 s.1)),
  λ h. (end_stops t text p).1 (h.0, (end_is t F text p).0 ((live_is t F (take p text) (accepting t)).1 h.1)),
)

-- PLACE p IS AN END EXACTLY IF m-1 IS LIVE, WHICH IS: SOME STRETCH OF THE TEXT STOPPING AT p, PERHAPS EMPTY, IS SPELLED BY THE RULE
pub end_live : {rule : List ℕ} (t : Tree) → IsRule rule t → (text : List ℕ) (p : ℕ) → End t text p ↔ ((p ≤ length text) × Live t (take p text) (accepting t))
end_live t d = full_live t (rule_full t d)
