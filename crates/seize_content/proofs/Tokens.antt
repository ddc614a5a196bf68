-- What has no bytes is one machine value, whatever it owns. Assumes `Logic`.
use Rattle.seize_content.proofs.Kit.{List, [], ◌∷◌, ◌++◌, ◌∙◌, Val, vstruct, of_list}
use denote.Laws.{Is, Tells}
use denote.Ref.{NamedLft}
use Rattle.seize_content.specs.contracts.loan.Pool as pool
use Rattle.seize_content.specs.contracts.loan.Sight as sight
use Rattle.seize_content.specs.contracts.ticket.Start as start
use Rattle.seize_content.specs.contracts.ticket.Ticket as ticket
use Rattle.seize_content.specs.contracts.token_cell.CellToken as right
use Rattle.seize_content.proofs.Fields.{token}

abbrev pub no_bytes : {D : Type 0} → D → List Val
no_bytes d = token ∷ []

pub ticket_tells : Tells ticket.the_row (Is ticket.the_row) no_bytes
ticket_tells d vs is = is.0.1.0 ∙ (λ i. vstruct (of_list (is.0.1.1.0.1.0 i ++ [])) ∷ [])

pub start_tells : Tells start.the_row (Is start.the_row) no_bytes
start_tells d vs is = is.0.1.0 ∙ (λ i. vstruct (of_list (is.0.1.1.0.1.0 i ++ [])) ∷ [])

pub cell_token_tells : Tells right.the_row (Is right.the_row) no_bytes
cell_token_tells d vs is = is.0.1.0 ∙ (λ i. vstruct (of_list (is.0.1.1.0.1.0 i ++ [])) ∷ [])

pub pool_tells : Tells pool.the_row (Is pool.the_row) no_bytes
pool_tells d vs is = is.0.1.0 ∙ (λ i. vstruct (of_list (is.0.1.1.0.1.0 i ++ [])) ∷ [])

pub sight_tells : (κ : NamedLft) → Tells (sight.the_row κ) (Is (sight.the_row κ)) no_bytes
sight_tells κ d vs is = is.0.1.0 ∙ (λ i. vstruct (of_list (is.0.1.1.0.1.0 i ++ [])) ∷ [])
