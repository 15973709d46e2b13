-- `step_over`: a token that fits is within the limits that its step asks for (`ready_depth` and its like), and each kind of token has its step.
use Rattle.tokens.proofs.Scans.{ready_bar, ready_close, ready_depth, ready_open}
use Rattle.tokens.specs.Scans.{with_frames}
use Rattle.tokens.proofs.step_over.Goals as goal

pub after_letter-requires : goal.after_letter-requires
after_letter-requires c =
    (c.requires.ready.below, ready_depth (with_frames c.args.scan c.requires.frames) c.args.token c.requires.ready)

pub after_open-requires : goal.after_open-requires
after_open-requires c =
    (c.requires.ready.below, ready_open (with_frames c.args.scan c.requires.frames) c.args.token c.requires.ready c.in-Open.is)

pub after_bar-requires : goal.after_bar-requires
after_bar-requires c =
    let r = c.requires.ready in
    (r.below, (ready_bar (with_frames c.args.scan c.requires.frames) c.args.token r c.in-Bar.is, ready_depth (with_frames c.args.scan c.requires.frames) c.args.token r))

pub after_close-requires : goal.after_close-requires
after_close-requires c =
    let r = c.requires.ready in
    (r.below, (ready_close (with_frames c.args.scan c.requires.frames) c.args.token r c.in-Close.mark c.in-Close.is, ready_depth (with_frames c.args.scan c.requires.frames) c.args.token r))
