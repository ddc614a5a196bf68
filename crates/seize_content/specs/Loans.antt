-- The words in which the contracts speak of loans.
--     IsLent t p      the ticket t says that its content is lent, and p is the pool of that loan
--     SightOf p s     s is a sight of the loan that p is the pool of
use Rattle.core.specs.Prelude.{◌≡◌}
use Rattle.seize_content.specs.Stages.{lent}
use Rattle.seize_content.specs.declared.loan.Pool.{Pool}
use Rattle.seize_content.specs.declared.loan.Sight.{Sight}
use Rattle.seize_content.specs.declared.ticket.Ticket.{Ticket}

abbrev pub IsLent : Ticket → Pool → Type 0
IsLent t p = (t.name ≡ p.name) × (t.says ≡ lent p.life p.value)

abbrev pub SightOf : Pool → Sight → Type 0
SightOf p s = (s.name ≡ p.name) × (s.life ≡ p.life) × (s.value ≡ p.value)
