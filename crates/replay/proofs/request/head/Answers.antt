-- One word after the other.
use Rattle.replay.proofs.Following.{then}
use Rattle.replay.proofs.request.head.Goals as goal

pub returns-in_err-number-clause-follows : goal.returns-in_err-number-clause-follows
returns-in_err-number-clause-follows c = then c.number.ensures.follows (then c.number-2.ensures.follows (then c.number-3.ensures.follows (then c.number-4.ensures.follows c.number-5.ensures.follows)))

pub returns-in_err-approx-clause-follows : goal.returns-in_err-approx-clause-follows
returns-in_err-approx-clause-follows c = then c.number.ensures.follows (then c.number-2.ensures.follows (then c.number-3.ensures.follows (then c.number-4.ensures.follows (then c.number-5.ensures.follows c.flag.ensures.follows))))

pub returns-in_err-forward_only-clause-follows : goal.returns-in_err-forward_only-clause-follows
returns-in_err-forward_only-clause-follows c = then c.number.ensures.follows (then c.number-2.ensures.follows (then c.number-3.ensures.follows (then c.number-4.ensures.follows (then c.number-5.ensures.follows (then c.flag.ensures.follows c.flag-2.ensures.follows)))))

pub returns-in_err-score_threshold-clause-follows : goal.returns-in_err-score_threshold-clause-follows
returns-in_err-score_threshold-clause-follows c = then c.number.ensures.follows (then c.number-2.ensures.follows (then c.number-3.ensures.follows (then c.number-4.ensures.follows (then c.number-5.ensures.follows (then c.flag.ensures.follows (then c.flag-2.ensures.follows c.float.ensures.follows))))))

pub returns-in_err-gc_kind-clause-follows : goal.returns-in_err-gc_kind-clause-follows
returns-in_err-gc_kind-clause-follows c = then c.number.ensures.follows (then c.number-2.ensures.follows (then c.number-3.ensures.follows (then c.number-4.ensures.follows (then c.number-5.ensures.follows (then c.flag.ensures.follows (then c.flag-2.ensures.follows (then c.float.ensures.follows c.number-6.ensures.follows)))))))

pub returns-in_err-float-clause-follows : goal.returns-in_err-float-clause-follows
returns-in_err-float-clause-follows c = then c.number.ensures.follows (then c.number-2.ensures.follows (then c.number-3.ensures.follows (then c.number-4.ensures.follows (then c.number-5.ensures.follows (then c.flag.ensures.follows (then c.flag-2.ensures.follows (then c.float.ensures.follows (then c.number-6.ensures.follows c.float-2.ensures.follows))))))))

pub returns-in_err-short-clause-follows : goal.returns-in_err-short-clause-follows
returns-in_err-short-clause-follows c = then c.number.ensures.follows (then c.number-2.ensures.follows (then c.number-3.ensures.follows (then c.number-4.ensures.follows (then c.number-5.ensures.follows (then c.flag.ensures.follows (then c.flag-2.ensures.follows (then c.float.ensures.follows (then c.number-6.ensures.follows (then c.float-2.ensures.follows c.number-7.ensures.follows)))))))))

pub returns-in_err-lent-clause-follows : goal.returns-in_err-lent-clause-follows
returns-in_err-lent-clause-follows c = then c.number.ensures.follows (then c.number-2.ensures.follows (then c.number-3.ensures.follows (then c.number-4.ensures.follows (then c.number-5.ensures.follows (then c.flag.ensures.follows (then c.flag-2.ensures.follows (then c.float.ensures.follows (then c.number-6.ensures.follows (then c.float-2.ensures.follows (then c.number-7.ensures.follows c.flag-3.ensures.follows))))))))))

pub returns-clause-follows : goal.returns-clause-follows
returns-clause-follows c = then c.number.ensures.follows (then c.number-2.ensures.follows (then c.number-3.ensures.follows (then c.number-4.ensures.follows (then c.number-5.ensures.follows (then c.flag.ensures.follows (then c.flag-2.ensures.follows (then c.float.ensures.follows (then c.number-6.ensures.follows (then c.float-2.ensures.follows (then c.number-7.ensures.follows c.flag-3.ensures.follows))))))))))
