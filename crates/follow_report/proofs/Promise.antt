-- THE PROMISE OF FOLLOW (document 02, Wish 1): in whatever stretches a journal arrives, what is written is a line for each of document 01's ends of the
-- whole journal, rising, and then `total` and their number. It is the promise of cuttings, with each call's ends in writing.
use Rattle.std.specs.Prelude.{Ok}
use Rattle.std.proofs.Common.{◌≡◌, ℕ, ◌<◌, List, [], ◌++◌, length, take, replicate, sym, refl, ap, ◌∙◌, append-nil, arith}
use Rattle.model.specs.Answers.{BuildSays, Counted, done, gives}
use Rattle.model.specs.Image.{image}
use Rattle.model.specs.Tree.{Tree}
use Rattle.model.proofs.Answers.Build.{build_one}
use Rattle.model.proofs.Answers.RoundTrip.{accepted}
use Rattle.model.proofs.Definitions.EndsList.{ends_one}
use Rattle.program_lines.specs.Lines.{end_lines, refused_text, total_text}
use Rattle.watcher.proofs.Demands.{Acceptable, accepts}
use Rattle.follow_report.specs.Follow.{Arrives, built, ended, Followed, follows, FollowSays, Next, nothing, Opens, stopped, went_on, Writes}
use Rattle.follow_report.proofs.Laws.Onward.{never}
use Rattle.follow_report.proofs.Laws.Whole.{begun_writes}

-- FOR EVERY RULE THAT IS BUILT, with its tree, AND EVERY WAY IN WHICH A JOURNAL ARRIVES
pub followed : {rule journal text : List ℕ} {stretches : List (List ℕ)} (t : Tree) → Acceptable rule (replicate 4834 0) t → Arrives journal stretches → FollowSays rule stretches text
    → Followed t journal text
followed {rule} {stretches = stretches} t A J (follows {n} {after} (built B b) W) =
    begun_writes (take n after) t (accepted rule (replicate 4834 0) (gives n after) B refl t A.is_rule) stretches J b W
followed {rule} t A J (follows (Opens.refused a B z k n e) W) =
    let whole = done (image t) (replicate 4834 0) in
    let D : BuildSays rule (replicate 4834 0) whole = BuildSays.built t A.short A.is_rule A.few A.shallow A.room refl in
    absurd (omega (arith, z, ap (λ (x : Counted). x.number) (build_one rule (replicate 4834 0) a whole B D)))

-- A RULE THAT IS REFUSED: the refusal's line and nothing else
quiet : {words rest : List ℕ} {stretches : List (List ℕ)} {next : Next} → Writes words stretches next rest → next ≡ stopped → rest ≡ []
quiet ended e = absurd (never e)
quiet (went_on H W) e = absurd (never e)
quiet nothing e = refl

unfollowed : {rule text : List ℕ} {stretches : List (List ℕ)} (a : Counted) → BuildSays rule (replicate 4834 0) a → 0 < a.number → FollowSays rule stretches text
    → text ≡ refused_text a.number a.place
unfollowed {rule} a B z (follows {n} {after} (built C b) W) =
    absurd (omega (arith, z, ap (λ (x : Counted). x.number) (build_one rule (replicate 4834 0) a (gives n after) B C)))
unfollowed {rule} a B z (follows {first = first} (Opens.refused c C y k n e) W) =
    ap (λ (x : List ℕ). first ++ x) (quiet W n) ∙ append-nil first ∙ e ∙ ap (λ (x : Counted). refused_text x.number x.place) (build_one rule (replicate 4834 0) c a C B)

-- SO WHAT IS WRITTEN DOES NOT DEPEND ON THE CUTTING, whatever the rule
pub cut_anyhow : {rule journal text other : List ℕ} {stretches others : List (List ℕ)} → Arrives journal stretches → Arrives journal others → FollowSays rule stretches text
    → FollowSays rule others other → text ≡ other
cut_anyhow {journal = journal} J K (follows {n} {after} (built B b) W) Q =
    let (t, A) = (accepts (Ok n) after B).0 (n, refl) in
    let P = followed t A J (follows (built B b) W) in
    let R = followed t A K Q in
    P.lines ∙ ap (λ (es : List ℕ). end_lines es ++ total_text (length es)) (ends_one t journal P.ends R.ends P.are R.are) ∙ sym R.lines
cut_anyhow J K (follows {n = m} (Opens.refused a B z k n e) W) Q =
    unfollowed a B z (follows {n = m} (Opens.refused a B z k n e) W) ∙ sym (unfollowed a B z Q)
