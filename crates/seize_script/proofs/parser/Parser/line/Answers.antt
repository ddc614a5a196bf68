use Rattle.seize_script.proofs.Ranging.{ready_pushed}
use Rattle.seize_script.proofs.parser.Parser.line.Goals as goal

pub returns-clause-ready : goal.returns-clause-ready
returns-clause-ready c =
    ready_pushed c.args.self.now.reader.alone c.call.new.self.alone
    c.args.self.now.groups.items c.args.self.now.calls.items c.push_back.new.self.items c.in_ok-call.call
    c.call.ensures.same c.requires.0 c.requires.1 c.in_ok-call.ensures.call c.in_ok-push_back.ensures.items
