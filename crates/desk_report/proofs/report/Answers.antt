-- What was tried is the text, or a refusal, whose line is the text.
use Rattle.desk_report.proofs.Laws.Stages.{put_refused}
use Rattle.desk_report.proofs.report.Goals as goal

pub returns-in-Err : goal.returns-in-Err
returns-in-Err c = put_refused c.in-Err.refusal c.in-Err.ensures c.put_refusal.ensures.line
