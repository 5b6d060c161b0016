use Rattle.std.proofs.Common.{ℕ, List, option_map, refl, sym, ap, subst}
use Rattle.std.specs.Borrow.{Bor}
use Rattle.std.specs.Prelude.{Option}
use Rattle.asm_row.specs.Index.{IsAdded}
use Rattle.asm_row.proofs.Indexed.{added_name, added_other}
use Rattle.asm_row.proofs.listing.with_place.Goals as goal

pub returns-in_ok-named-in-Some : goal.returns-in_ok-named-in-Some
returns-in_ok-named-in-Some c =
    subst (λ (k : Option (List ℕ)). IsAdded c.args.index (record { named = c.in_ok-named-in-Some.named; others = c.args.index.others }) k c.args.place)
    (sym (ap (option_map (λ (x : Bor (List ℕ)). x.now)) c.in-Some.is))
    (added_name c.args.index (record { named = c.in_ok-named-in-Some.named; others = c.args.index.others }) c.in-Some.name.now c.args.place c.in_ok-named-in-Some.ensures refl)

pub returns-in_ok-push-in-None : goal.returns-in_ok-push-in-None
returns-in_ok-push-in-None c =
    subst (λ (k : Option (List ℕ)). IsAdded c.args.index (record { named = c.args.index.named; others = c.push.new.self }) k c.args.place)
    (sym (ap (option_map (λ (x : Bor (List ℕ)). x.now)) c.in-None.is))
    (added_other c.args.index (record { named = c.args.index.named; others = c.push.new.self }) c.args.place (λ other. refl) c.in_ok-push-in-None.ensures.items)
