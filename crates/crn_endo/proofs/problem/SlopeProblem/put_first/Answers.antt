use Rattle.crn_endo.proofs.Prelude.{◌≡◌, ◌<◌, ◌+◌, length, ap, arith, Net, slope_width}
use Rattle.crn_endo.proofs.FirstOption.{first_asked}
use Rattle.crn_endo.proofs.problem.SlopeProblem.put_first.Goals as goal

pub put_asked-requires : goal.put_asked-requires
put_asked-requires c =
    let s = c.args.self.now in
    let t = s.given.now in
    omega (arith, c.requires.count, slope_width t.net t.reaction, c.species.ensures.count, s.inside, ap (λ (n : Net). length n.names) s.net_is, ap (λ (n : Net). length n.reactions) s.net_is)

pub returns : goal.returns
returns c =
    let s = c.args.self.now in
    let t = s.given.now in
    let inside : t.reaction < length t.net.reactions = omega (arith, s.inside, s.reaction_is, ap (λ (n : Net). length n.reactions) s.net_is) in
    let at : c.species.result + s.reaction ≡ length t.net.names + t.reaction = omega (arith, c.species.ensures.count, s.reaction_is, ap (λ (n : Net). length n.names) s.net_is) in
    first_asked t.net t.reaction c.args.option (c.species.result + s.reaction) c.asked_of_sign.result c.args.words.now c.put_asked.new.words inside at c.asked_of_sign.ensures c.put_asked.ensures c.requires
