use Rattle.crn_defi.proofs.Prelude.{◌≡◌, ◌+◌, ◌∷◌, ◌++◌, [], List, length, ℕ, ap, sym, subst, arith, length-append, RankProof, IsClass, IsClassRank, AreClassRanks}
use Rattle.crn_defi.proofs.ClassRanks.{ranks_push}
use Rattle.crn_defi.proofs.DeficiencyAnswers.{class_at}
use Rattle.crn_defi.proofs.deficiency.class_ranks.Goals as goal

pub class_rank-requires-clause-class : goal.class_rank-requires-clause-class
class_rank-requires-clause-class c =
    let l = c.args.linkage.now in
    subst (λ (ls : List ℕ). IsClass ls (c.loop-k.k + 1)) (sym c.as_slice.ensures) (class_at l.label.list l.count c.requires.count_is (c.loop-k.k + 1) (omega arith) (omega (arith, c.loop-k-test.true)))

pub loop-k-preserved : goal.loop-k-preserved
loop-k-preserved c =
    let net = c.args.net.now in
    let labels = c.args.linkage.now.label.list in
    let k = c.loop-k.k in
    let ds = c.loop-k.deficiencies.list in
    let d = c.in_ok-found.found.deficiency in
    let proof = c.in_ok-found.found.proof in
    let first : c.push.new.self.list ≡ ds ++ d ∷ [] = c.in_ok-push.ensures.ok in
    let second : c.push-in-loop-k.new.self ≡ c.loop-k.proofs ++ proof ∷ [] = c.in_ok-push-2.ensures.ok in
    let here : IsClassRank net labels (k + 1) d proof = subst (λ (ls : List ℕ). IsClassRank net ls (k + 1) d proof) c.as_slice.ensures c.in_ok-found.ensures.found in
    let place : k + 1 ≡ 1 + length ds = omega (arith, c.loop-k.invariant.count) in
    let ranks : AreClassRanks net labels 1 (ds ++ d ∷ []) (c.loop-k.proofs ++ proof ∷ []) =
    ranks_push net labels 1 ds c.loop-k.proofs d proof c.loop-k.invariant.ranks (subst (λ (j : ℕ). IsClassRank net labels j d proof) place here) in
    record {
      ranks = subst (λ (qs : List RankProof). AreClassRanks net labels 1 c.push.new.self.list qs) (sym second) (subst (λ (xs : List ℕ). AreClassRanks net labels 1 xs (c.loop-k.proofs ++ proof ∷ [])) (sym first) ranks);
      count = omega (arith, ap length first, length-append ds (d ∷ []), c.loop-k.invariant.count);
    }
