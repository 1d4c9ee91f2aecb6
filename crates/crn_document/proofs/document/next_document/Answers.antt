use Rattle.crn_document.proofs.Prelude.{◌∙◌, ℕ, subst, sym, err_from_is_err_and, StepGives, IsWhole, whole_course, LastIs, count_course, network_course, title_course, StopIs, Accepted, last_exits, stop_first}
use Rattle.std.specs.Prelude.{Ok, Err}
use Rattle.crn_document.proofs.Documents.{after_count, after_network, after_title, body_at, count_then, network_all, network_then, title_then}
use Rattle.crn_document.proofs.document.next_document.Goals as goal

pub returns-in_err-next_version : goal.returns-in_err-next_version
returns-in_err-next_version g c = record {
  step =
      let e = c.in_err-next_version.field-0.0 in
      last_exits whole_course IsWhole c.from_residual.result e c.args.at.now _ _ (err_from_is_err_and c.from_residual.result c.from_residual.ensures.1)
      (stop_first title_course after_title e c.args.at.now _ _ c.in_err-next_version.ensures.step);
}

pub returns-in_err-count : goal.returns-in_err-count
returns-in_err-count g c = record {
  step =
      let e = c.in_err-count.field-0.0 in
      let mid = c.next_version.new.at in
      let s = c.in_ok-next_version.ensures.step in
      last_exits whole_course IsWhole c.from_residual-in_err-count.result e c.args.at.now _ _ (err_from_is_err_and c.from_residual-in_err-count.result c.from_residual-in_err-count.ensures.1)
      (title_then s.0 (Err e) c.args.at.now mid _ _ _ s.2 s.3
      (stop_first count_course (after_count s.0) e mid _ _ c.in_err-count.ensures.step));
}

pub returns-in_err-net : goal.returns-in_err-net
returns-in_err-net g c = record {
  step =
      let e = c.in_err-net.field-0.0 in
      let first = c.next_version.new.at in
      let second = c.next_count.new.at in
      let s = c.in_ok-next_version.ensures.step in
      let t = c.in_ok-count.ensures.step in
      let between = g.S.Source.seen c.next_count.new.source in
      let now = g.S.Source.seen c.next_network.new.source in
      last_exits whole_course IsWhole c.from_residual-in_err-net.result e c.args.at.now _ _ (err_from_is_err_and c.from_residual-in_err-net.result c.from_residual-in_err-net.ensures.1)
      (title_then s.0 (Err e) c.args.at.now first _ _ _ s.2 s.3
      (count_then s.0 t.0 (Err e) first second _ _ _ t.2 t.3
      (network_all s.0 t.0 (Err e) second between now
      (stop_first (network_course t.0) (after_network s.0 t.0) e second between now
      (subst (λ (k : ℕ). StopIs (network_course k) e second between now) (sym t.1) c.in_err-net.ensures.step)))));
}

pub returns-in_err-verdicts : goal.returns-in_err-verdicts
returns-in_err-verdicts g c = record {
  step =
      let e = c.in_err-verdicts.field-0.0 in
      let first = c.next_version.new.at in
      let second = c.next_count.new.at in
      let third = c.next_network.new.at in
      let s = c.in_ok-next_version.ensures.step in
      let t = c.in_ok-count.ensures.step in
      let n = c.in_ok-net.ensures.step in
      let zero = g.S.Source.seen c.next_version.new.source in
      let one = g.S.Source.seen c.next_count.new.source in
      let two = g.S.Source.seen c.next_network.new.source in
      let now = g.S.Source.seen c.next_rest.new.source in
      last_exits whole_course IsWhole c.from_residual-in_err-verdicts.result e c.args.at.now _ _ (err_from_is_err_and c.from_residual-in_err-verdicts.result c.from_residual-in_err-verdicts.ensures.1)
      (title_then s.0 (Err e) c.args.at.now first _ zero now s.2 s.3
      (count_then s.0 t.0 (Err e) first second zero one now t.2 t.3
      (network_then s.0 t.0 n.0 (Err e) second third one two now
      (subst (λ (k : ℕ). StepGives (network_course k) n.0 second.line third.line second.lines third.lines one.left two.left) (sym t.1) n.2) n.3
      (body_at (λ d. StopIs d e third two now) s.0 third.version t.0 c.in_ok-count.count third.line n.0 c.in_ok-net.net (c.next_network.ensures.version ∙ c.next_count.ensures.version ∙ sym s.1) t.1 c.in_ok-net.ensures.line n.1 c.in_err-verdicts.ensures.step))));
}

pub returns : goal.returns
returns g c = record {
  step =
      let first = c.next_version.new.at in
      let second = c.next_count.new.at in
      let third = c.next_network.new.at in
      let s = c.in_ok-next_version.ensures.step in
      let t = c.in_ok-count.ensures.step in
      let n = c.in_ok-net.ensures.step in
      let zero = g.S.Source.seen c.next_version.new.source in
      let one = g.S.Source.seen c.next_count.new.source in
      let two = g.S.Source.seen c.next_network.new.source in
      let now = g.S.Source.seen c.next_rest.new.source in
      let accepted : Accepted = record { net = c.in_ok-net.net; verdicts = c.in_ok-verdicts.verdicts } in
      title_then s.0 (Ok accepted) c.args.at.now first _ zero now s.2 s.3
      (count_then s.0 t.0 (Ok accepted) first second zero one now t.2 t.3
      (network_then s.0 t.0 n.0 (Ok accepted) second third one two now
      (subst (λ (k : ℕ). StepGives (network_course k) n.0 second.line third.line second.lines third.lines one.left two.left) (sym t.1) n.2) n.3
      (body_at (λ d. LastIs d IsWhole (Ok accepted) third two now) s.0 third.version t.0 c.in_ok-count.count third.line n.0 c.in_ok-net.net (c.next_network.ensures.version ∙ c.next_count.ensures.version ∙ sym s.1) t.1 c.in_ok-net.ensures.line n.1 c.in_ok-verdicts.ensures.step)));
}
