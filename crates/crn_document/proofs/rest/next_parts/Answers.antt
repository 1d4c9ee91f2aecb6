use Rattle.crn_document.proofs.Prelude.{◌+◌, ◌∙◌, List, [], length, map, refl, subst, ℤ, err_from_is_err_and, built, Verdict, Question, asks_blocks, asks_table, lists_of, meaning, StepGives, after_at, after_by, last_course, StopIs, last_exits, stop_after, stop_first}
use Rattle.crn_document.proofs.Bodies.{after_table, blocks_begin, parts_end}
use Rattle.crn_document.proofs.rest.next_parts.Goals as goal

pub returns-in_err-table : goal.returns-in_err-table
returns-in_err-table g c = record {
  step =
      let at = c.args.at.now in
      let e = c.in_err-table.field-0.0 in
      last_exits _ _ c.from_residual.result e at _ _ (err_from_is_err_and c.from_residual.result c.from_residual.ensures.1)
      (stop_first (asks_table at.version at.line) (after_table at.version at.line c.args.net.now) e at _ _ c.in_err-table.ensures.step);
}

pub returns-in_err-next_blocks : goal.returns-in_err-next_blocks
returns-in_err-next_blocks g c = record {
  step =
      let at = c.args.at.now in
      let mid = c.next_table.new.at in
      let net = c.args.net.now in
      let e = c.in_err-next_blocks.field-0.0 in
      let before = g.S.Source.seen c.args.source.now in
      let between = g.S.Source.seen c.next_table.new.source in
      let now = g.S.Source.seen c.next_blocks.new.source in
      let s = c.in_ok-table.ensures.step in
      let b = subst (λ (t : List (List ℤ)). StopIs (asks_blocks meaning mid.version t built (after_by net c.args.checked.now.facts.earlier c.args.checked.now.by_tree mid.line [])) e mid between now) s.1.1 (let h = c.in_err-next_blocks.ensures.step in h []) in
      last_exits _ _ c.from_residual-in_err-next_blocks.result e at _ _ (err_from_is_err_and c.from_residual-in_err-next_blocks.result c.from_residual-in_err-next_blocks.ensures.1)
      (stop_after (asks_table at.version at.line) (after_table at.version at.line net) s.0 e at mid before between now s.2 s.3
      (stop_first (asks_blocks meaning at.version (lists_of s.0) built (after_at net [] (at.line + length s.0) [])) (λ after. last_course at.version net after) e mid between now
      (blocks_begin (λ d. StopIs d e mid between now) at.version mid.version (at.line + length s.0) mid.line (lists_of s.0) net c.args.checked.now.facts.earlier c.args.checked.now.by_tree c.next_table.ensures.version s.1.0 c.requires.empty c.requires.first b)));
}

pub returns : goal.returns
returns g c = record {
  step =
      let at = c.args.at.now in
      let mid = c.next_table.new.at in
      let last = c.next_blocks.new.at in
      let net = c.args.net.now in
      let before = g.S.Source.seen c.args.source.now in
      let between = g.S.Source.seen c.next_table.new.source in
      let more = g.S.Source.seen c.next_blocks.new.source in
      let s = c.in_ok-table.ensures.step in
      let b = (let h = c.in_ok-next_blocks.ensures.step in h []) in
      let given : StepGives (asks_blocks meaning mid.version (lists_of s.0) built (after_by net c.args.checked.now.facts.earlier c.args.checked.now.by_tree mid.line [])) b.0 mid.line last.line mid.lines last.lines between.left more.left =
      subst (λ (t : List (List ℤ)). StepGives (asks_blocks meaning mid.version t built (after_by net c.args.checked.now.facts.earlier c.args.checked.now.by_tree mid.line [])) b.0 mid.line last.line mid.lines last.lines between.left more.left) s.1.1 b.2 in
      parts_end net c.next_blocks.new.checked.facts.earlier c.next_blocks.new.checked.by_tree (map (λ (e : Question × Verdict). e.1) c.next_blocks.new.checked.facts.earlier) s.0 b.0 c.next_end.result at mid last before between more _
      (c.next_blocks.ensures.version ∙ c.next_table.ensures.version) refl s.2 s.3 b.1
      (blocks_begin (λ d. StepGives d b.0 mid.line last.line mid.lines last.lines between.left more.left) at.version mid.version (at.line + length s.0) mid.line (lists_of s.0) net c.args.checked.now.facts.earlier c.args.checked.now.by_tree c.next_table.ensures.version s.1.0 c.requires.empty c.requires.first given)
      b.3 c.next_end.ensures.step;
}
