use Rattle.crn_run.proofs.Prelude.{◌≡◌, ◌-◌, List, [], ◌∷◌, ◌||◌, length, take, drop, map, rules, tests, arith, refl, ap, ◌∙◌, String, string_bytes, list_any, Global, YieldsList-from_slice, any_from_yields_List, is_two_dashes}
use Rattle.std.proofs.Common.{take_all}
use Rattle.crn_run.proofs.words.has_two_dashes.Goals as goal

any_is : (ws : List (String Global)) → list_any (λ w. is_two_dashes (string_bytes w)) ws ≡ list_any is_two_dashes (map string_bytes ws)
any_is [] = refl
any_is (w ∷ ws) = ap (λ b. is_two_dashes (string_bytes w) || b) (any_is ws)

rest_is : (ws : List (String Global)) → list_any (λ w. is_two_dashes (string_bytes w)) (take (length ws - 1) (drop 1 ws)) ≡ list_any is_two_dashes (drop 1 (map string_bytes ws))
rest_is [] = refl
rest_is (w ∷ ws) = ap (list_any (λ v. is_two_dashes (string_bytes v))) (take_all (length (w ∷ ws) - 1) ws (omega arith)) ∙ any_is ws

pub returns-in-len1-up : goal.returns-in-len1-up
returns-in-len1-up c =
    any_from_yields_List (λ w. is_two_dashes (string_bytes w)) _ _ c.any.result c.any.ensures.ran (YieldsList-from_slice _ refl) (λ x b q k. search (rules, tests))
    ∙ ap (list_any (λ w. is_two_dashes (string_bytes w))) c.iter.ensures.rest ∙ rest_is c.args.words.now
