use Rattle.std.proofs.Common.{inl, inr, Err, refl, ap, arith}
use Rattle.hay_run.specs.declared.stops.Stop.TheVariants as stop
use Rattle.hay_run.proofs.Auditing.{audits_stopped, audits_told, audits_unframed, fault_input}
use Rattle.hay_run.proofs.Auditing.{fault_no_output, judged_no_fault, stop_no_input, stop_output}
use Rattle.hay_run.proofs.Checking.{same_stop}
use Rattle.hay_run.proofs.audit.audit_transcript.Goals as goal

-- no frame came

pub returns-in-Err-clause-audited : goal.returns-in-Err-clause-audited
returns-in-Err-clause-audited g c =
    audits_unframed c.args.settings.now c.fault_status.result (g.S.Source.left c.args.source.now) (g.S.Source.left c.judge.new.source)
    (g.K.Sink.written c.args.sink.now) (g.K.Sink.written c.args.sink.now)
    c.in-Err.fault c.fault_status.ensures (λ is. c.in-Err.ensures.bad (ap (λ f. Err f) is)) (λ is. c.in-Err.ensures.long (ap (λ f. Err f) is))
    (λ other. c.in-Err.ensures.taken (λ is. other cc)) refl

pub returns-in-Err-clause-sink : goal.returns-in-Err-clause-sink
returns-in-Err-clause-sink g c = record {
  later = omega arith;
  cause = λ three. absurd (fault_no_output c.in-Err.fault c.fault_status.result c.fault_status.ensures three);
}

pub returns-in-Err-clause-source : goal.returns-in-Err-clause-source
returns-in-Err-clause-source g c = record {
  later = c.judge.ensures.count;
  cause = λ four. c.in-Err.ensures.cause (ap (λ f. Err f) (fault_input c.in-Err.fault c.fault_status.result c.fault_status.ensures four));
}

-- the judgement was written

pub returns-in-Ok-write_judgement-clause-audited : goal.returns-in-Ok-write_judgement-clause-audited
returns-in-Ok-write_judgement-clause-audited g c =
    audits_told c.args.settings.now c.judgement_status.result (g.S.Source.left c.args.source.now) (g.S.Source.left c.judge.new.source)
    (g.K.Sink.written c.args.sink.now) (g.K.Sink.written c.write_judgement.new.sink)
    c.in-Ok.judgement c.in-Ok.ensures.judged (c.in-Ok.ensures.taken (λ is. cc)) c.judgement_status.ensures c.in-Ok-write_judgement.ensures.wrote

pub returns-in-Ok-write_judgement-clause-sink : goal.returns-in-Ok-write_judgement-clause-sink
returns-in-Ok-write_judgement-clause-sink g c = record {
  later = c.write_judgement.ensures.count;
  cause = λ three. absurd (judged_no_fault c.in-Ok.judgement c.judgement_status.result c.judgement_status.ensures (inl three));
}

pub returns-in-Ok-write_judgement-clause-source : goal.returns-in-Ok-write_judgement-clause-source
returns-in-Ok-write_judgement-clause-source g c = record {
  later = c.judge.ensures.count;
  cause = λ four. absurd (judged_no_fault c.in-Ok.judgement c.judgement_status.result c.judgement_status.ensures (inr (inl four)));
}

-- it was not

pub returns-in-Err-write_judgement-clause-audited : goal.returns-in-Err-write_judgement-clause-audited
returns-in-Err-write_judgement-clause-audited g c =
    audits_stopped c.args.settings.now c.status.result (g.S.Source.left c.args.source.now) (g.S.Source.left c.judge.new.source)
    (g.K.Sink.written c.args.sink.now) (g.K.Sink.written c.write_judgement.new.sink)
    c.in-Ok.judgement c.in-Ok.ensures.judged (c.in-Ok.ensures.taken (λ is. cc)) c.in-Err-write_judgement.stop c.status.ensures
    (same_stop c.in-Err-write_judgement.stop stop.Output stop.NoMemory c.in-Err-write_judgement.ensures.stops)
    (λ is. c.in-Err-write_judgement.ensures.part (ap (λ w. Err w) is)) (λ is. c.in-Err-write_judgement.ensures.none (ap (λ w. Err w) is))

pub returns-in-Err-write_judgement-clause-sink : goal.returns-in-Err-write_judgement-clause-sink
returns-in-Err-write_judgement-clause-sink g c = record {
  later = c.write_judgement.ensures.count;
  cause = λ three. c.in-Err-write_judgement.ensures.cause (ap (λ w. Err w)
      (stop_output c.in-Err-write_judgement.stop c.status.result c.status.ensures three));
}

pub returns-in-Err-write_judgement-clause-source : goal.returns-in-Err-write_judgement-clause-source
returns-in-Err-write_judgement-clause-source g c = record {
  later = c.judge.ensures.count;
  cause = λ four. absurd (stop_no_input c.in-Err-write_judgement.stop c.status.result c.status.ensures
      (same_stop c.in-Err-write_judgement.stop stop.Output stop.NoMemory c.in-Err-write_judgement.ensures.stops) four);
}
