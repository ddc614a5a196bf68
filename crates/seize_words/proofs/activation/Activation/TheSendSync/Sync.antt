use denote.Param.Send.{IsSync}
use Rattle.seize_words.specs.contracts.activation.Activation.{the_row}

pub sync : IsSync the_row
sync = record { shared = λ d b o κ. ((((tt, λ _. tt), tt), λ _. tt), λ _. tt) }
