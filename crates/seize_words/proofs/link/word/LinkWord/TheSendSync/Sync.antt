use base.Fml.{Lft}
use base.Shift.{Keyless}
use denote.Param.Send.{IsSync, struct_sync, sendable}
use denote.RawPtr.{block_ptr}
use denote.Struct.Field.{u64-field}
use denote.Struct.Owning.{shape, to}
use Rattle.core.proofs.atomic.Sent.{chain-Keyless}
use Rattle.std.proofs.Common.{ℕ, List, Option, Some, None}
use Rattle.seize_book.proofs.Sent.{keys_keyless, keys_shown}
use Rattle.seize_words.specs.LinkSites.{KeyRow, keys_of_rows, shares_by, site_in, standing}
use Rattle.seize_words.specs.Words.{Site, site_keys}
use Rattle.seize_words.specs.contracts.link.still.StillWord as still
use Rattle.seize_words.specs.contracts.link.word.LinkWord.{the_row}

its : (site : Site) (t : Option (ℕ × List KeyRow)) (b o : ℕ) (κ : Lft) → Keyless (shares_by site t (block_ptr b o) κ)
its site None b o κ = λ t. ((λ νs. chain-Keyless νs κ t.0), ((λ _. tt), (λ v. (tt, λ u. ((λ _. tt), keys_keyless site.name (site_keys site u.0 u.1))))))
its site (Some t) b o κ =
    let my : IsSync u64-field.row = search sendable depth 30 in
    ((struct_sync (shape still.the_type) (my, tt)).shared (to still.the_type (standing site.name t)) b o κ, keys_shown site.name (keys_of_rows t.1) κ)

pub sync : IsSync the_row
sync = record { shared = λ d b o κ. its (site_in d) d.still b o κ }
