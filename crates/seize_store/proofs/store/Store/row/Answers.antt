use Rattle.std.proofs.Common.{◌≡◌, ℕ, List, refl, sym, ◌∙◌, ap, subst}
use Rattle.std.specs.Prelude.{IfSome, Some}
use Rattle.std.specs.declared.option.Option.{Option}
use Rattle.once_cell.specs.declared.race.note.Note.{Note}
use denote.RawPtr.{Ptr}
use Rattle.seize_store.proofs.Tokened.{token_is}
use Rattle.seize_store.proofs.store.Store.row.Goals as goal

-- src/look_up/find.rt:99:5
pub returns : goal.returns
returns g c = let seen = c.args.seen.now in let chunks = seen.known.chunks in
    let knows : c.again.result.known ≡ Some chunks = ap (λ (n : Note (List (Ptr × ℕ))). n.known) c.again.ensures.1 ∙ seen.same in
    let same : c.known.result.now ≡ chunks = subst (λ (k : Option (List (Ptr × ℕ))). IfSome k (λ found. found ≡ chunks)) (sym knows ∙ c.known.ensures) refl in
    (token_is _ _ c.again.ensures.0 refl, same)
