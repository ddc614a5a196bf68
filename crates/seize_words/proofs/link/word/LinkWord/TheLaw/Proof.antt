-- A `&` to a link's word is made of a borrow of it: as that of a word, or of one that stands still. Assumes `Logic`.
use Rattle.std.proofs.Common.{ℕ, List, Option, Some, None}
use seplogic.Ra.Ura.{Ura}
use types.Logic.{Logic}
use denote.Memory.{part_of, shared_of}
use denote.RattleType.{RattleType}
use denote.Shares.{SharesAt}
use denote.Sharing.{ShrLaws}
use Rattle.seize_words.specs.LinkSites.{KeyRow, LinkSite, site_in, standing}
use Rattle.seize_words.specs.Words.{Site}
use Rattle.seize_words.specs.contracts.link.word.LinkWord as C
use Rattle.seize_words.proofs.link.still.StillWord.TheLaws.{the_field_shared as still_shared}
use Rattle.seize_words.proofs.word.Word.TheLaws.{the_field_shared as word_shared}
use Rattle.seize_words.proofs.link.word.LinkWord.TheLaw.Statement.{statement}

abbrev R : RattleType
R = C.the_written

abbrev at : Site → Option (ℕ × List KeyRow) → LinkSite
at site t = record { name = site.name; kind = site.kind; number = site.number; still = t }

shared : {M : Type 1} {𝓤 : Ura M} (𝓛 : Logic 𝓤) (site : Site) (t : Option (ℕ × List KeyRow)) → SharesAt 𝓛 R (at site t) (shared_of R (at site t)) R.lives
unfolding part_of
shared {M} {𝓤} 𝓛 site None = word_shared.shares M 𝓤 𝓛 site
shared {M} {𝓤} 𝓛 site (Some t) = still_shared.shares M 𝓤 𝓛 (standing site.name t)

laws : (site : Site) (t : Option (ℕ × List KeyRow)) (b o : ℕ) → ShrLaws (R.shr_at (at site t) b o)
laws site None = word_shared.shr_laws site
laws site (Some t) = still_shared.shr_laws (standing site.name t)

pub shares : statement
shares = record { shares = λ M 𝓤 𝓛 d. shared 𝓛 (site_in d) d.still; shr_laws = λ d. laws (site_in d) d.still }
