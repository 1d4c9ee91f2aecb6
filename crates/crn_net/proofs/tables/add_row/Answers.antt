use Rattle.crn_net.proofs.Prelude.{arith, inl, inr, refl, sym, ◌∙◌, List, subst, ℤ, IsIn, at_in, length_push, get_or_push}
use Rattle.crn_net.proofs.Members.{found_at, found_none, row_put}
use Rattle.crn_net.proofs.tables.add_row.Goals as goal

pub returns-in-Some-clause-notes : goal.returns-in-Some-clause-notes
returns-in-Some-clause-notes c =
    let f = found_at c.args.row c.args.rows.now.keys c.in-Some.place (sym c.get_index_of.ensures.index ∙ c.in-Some.is) in
    (inl (subst (λ (r : List ℤ). IsIn r c.args.rows.now.keys) f.1 (at_in c.args.rows.now.keys c.in-Some.place c.args.row f.0), refl), f.0, f.1, c.requires.few)

pub returns-then-len-ge-MAX_COMPLEXES-clause-notes : goal.returns-then-len-ge-MAX_COMPLEXES-clause-notes
returns-then-len-ge-MAX_COMPLEXES-clause-notes c = (refl, found_none c.args.row c.args.rows.now.keys (sym c.get_index_of.ensures.index ∙ c.in_default.is), omega arith)

pub returns-clause-notes : goal.returns-clause-notes
returns-clause-notes c =
    let free = found_none c.args.row c.args.rows.now.keys (sym c.get_index_of.ensures.index ∙ c.in_default.is) in
    let is = row_put c.args.rows.now.keys c.insert.new.self.keys c.args.row c.in_ok-insert.ensures.keys free in
    let long = length_push c.args.rows.now.keys c.args.row in
    rw is (inr (free, refl), omega arith, get_or_push c.args.rows.now.keys c.args.row c.args.row c.len-place.result (omega arith), omega arith)
