-- `permit_for_named` gives what the book keeps of what may be lent.
use Rattle.seize_book.proofs.CallKit.{List, [], ◌∷◌, refl, ‵, ◌⊛◌, some, given, later, await, ◌$◌, !, keep, split, pick, learn, use1, calls, told, token1, Only, pass, loan_of, after, Entry, Before, pass_owns, start, looked, IsDistinct}
use Rattle.std.specs.Prelude.{map}
use Rattle.seize_book.specs.contracts.book.permit.Permit as Permit
use Rattle.seize_book.proofs.Looks.{finds_permits, for_named}
use Rattle.seize_book.specs.contracts.book.pass.Pass.permit_for_named.{ended, clauses}
use Rattle.seize_book.specs.contracts.book.pass.Pass.permit_for_named.Key.{name as #self}
use Rattle.seize_book.proofs.book.pass.Pass.permit_for_named.Statement.{statement}
use Rattle.seize_book.proofs.book.pass.Pass.permit_for_named.Code as code

pub permit_for_named_spec : {M : Type 1} → statement M
permit_for_named_spec 𝓤 𝓛 𝓜 𝓡 wired =
    calls 𝓛 ended (pass 𝓛 0 tt 1 tt, tt) (clauses 𝓛 𝓜.mem 𝓡.returns) _ (λ κs. Only 𝓛 Permit.the_row Permit.the_heap (λ r. refl)) 𝓜 𝓡 #self _ (code.unfolded 𝓤 𝓛.H 𝓜 𝓡 wired) (λ κs qs. refl) (λ κs a are. token1 𝓛 (tt, (tt, tt)) (tt, tt) (tt, tt)) (λ κs qs a are gh is end.
    let b = a.0.now in keep ! (0 ∷ []) $ use1 𝓛 (later (some (λ (log : List Entry). given (Before b.name b.id b.seen [] log × IsDistinct 𝓛 b.name) (‵ (pass_owns b.name b.id log) ⊛ ‵ (for_named b.name log)))))
    (finds_permits 𝓛 b.name b.id b.seen) $ await ! tt $ pick ! (λ log. learn ! (λ so. split ! $
    end (record { marker = record {}; list = b.name.permits; codes = map loan_of (after (start b.name) log).named }) (log, tt) (told 𝓤 (looked b.name b.id b.seen log so.0 so.1, (refl, refl), so.0.say)))))
