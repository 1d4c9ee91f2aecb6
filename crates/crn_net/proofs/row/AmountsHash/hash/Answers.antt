use Rattle.crn_net.proofs.Prelude.{◌≡◌, ◌∙◌, List, ℕ, map, sym, ap, subst, ℤ, nat_abs, abs_back}
use Rattle.crn_net.proofs.row.AmountsHash.hash.Goals as goal

pub returns : goal.returns
returns g c =
    subst (λ (v : List ℤ). c.write.new.self ≡ g.H.Hasher.write c.args.state.now (map nat_abs v)) c.self.view_is
    (c.write.ensures ∙ ap (λ (bytes : List ℕ). g.H.Hasher.write c.args.state.now bytes) (sym (abs_back c.self.inside.row)))
