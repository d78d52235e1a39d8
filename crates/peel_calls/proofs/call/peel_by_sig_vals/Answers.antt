use Rattle.peel_calls.proofs.CallLaws.{admitted, run_is_call, refusal_is_call}
use Rattle.peel_calls.proofs.call.peel_by_sig_vals.Goals as goal

pub returns-in_err-judge_lent : goal.returns-in_err-judge_lent
returns-in_err-judge_lent g c = refusal_is_call _ _ _ _ _ _ _ _ c.in_err-judge_lent.ensures c.from_residual.ensures.1

pub run_peeler-requires : goal.run_peeler-requires
run_peeler-requires g c = admitted _ _ _ _ _ _ c.in_ok-judge_lent.ensures

pub returns : goal.returns
returns g c = run_is_call _ _ _ _ _ _ c.in_ok-judge_lent.ensures c.run_peeler.ensures
