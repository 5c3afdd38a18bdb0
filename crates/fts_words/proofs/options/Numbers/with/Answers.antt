-- One option more, by its name: it was given already, or it is new.
use Rattle.std.proofs.Common.{◌∙◌, Some, None}
use Rattle.fts_words.proofs.Given.{port_once, lanes_once, connections_once, number_once, tries_once, job_once, socket_once, log_once}
use Rattle.fts_words.proofs.options.Numbers.with.Goals as goal

pub returns-in_err-first-in-Port : goal.returns-in_err-first-in-Port
returns-in_err-first-in-Port c = λ before are.
    c.from_residual.ensures ∙ port_once c.args.self before are c.args.option c.in-Port.number None c.in-Port.is c.in_err-first-in-Port.ensures

pub returns-in_ok-first-in-Port : goal.returns-in_ok-first-in-Port
returns-in_ok-first-in-Port c = λ before are.
    port_once c.args.self before are c.args.option c.in-Port.number (Some c.in_ok-first-in-Port.field-0) c.in-Port.is c.in_ok-first-in-Port.ensures

pub returns-in_err-first-in-Lanes : goal.returns-in_err-first-in-Lanes
returns-in_err-first-in-Lanes c = λ before are.
    c.from_residual-in_err-first-in-Lanes.ensures ∙ lanes_once c.args.self before are c.args.option c.in-Lanes.number None c.in-Lanes.is c.in_err-first-in-Lanes.ensures

pub returns-in_ok-first-in-Lanes : goal.returns-in_ok-first-in-Lanes
returns-in_ok-first-in-Lanes c = λ before are.
    lanes_once c.args.self before are c.args.option c.in-Lanes.number (Some c.in_ok-first-in-Lanes.field-0) c.in-Lanes.is c.in_ok-first-in-Lanes.ensures

pub returns-in_err-first-in-Connections : goal.returns-in_err-first-in-Connections
returns-in_err-first-in-Connections c = λ before are.
    c.from_residual-in_err-first-in-Connections.ensures ∙ connections_once c.args.self before are c.args.option c.in-Connections.number None c.in-Connections.is c.in_err-first-in-Connections.ensures

pub returns-in_ok-first-in-Connections : goal.returns-in_ok-first-in-Connections
returns-in_ok-first-in-Connections c = λ before are.
    connections_once c.args.self before are c.args.option c.in-Connections.number (Some c.in_ok-first-in-Connections.field-0) c.in-Connections.is c.in_ok-first-in-Connections.ensures

pub returns-in_err-first-in-Number : goal.returns-in_err-first-in-Number
returns-in_err-first-in-Number c = λ before are.
    c.from_residual-in_err-first-in-Number.ensures ∙ number_once c.args.self before are c.args.option c.in-Number.number None c.in-Number.is c.in_err-first-in-Number.ensures

pub returns-in_ok-first-in-Number : goal.returns-in_ok-first-in-Number
returns-in_ok-first-in-Number c = λ before are.
    number_once c.args.self before are c.args.option c.in-Number.number (Some c.in_ok-first-in-Number.field-0) c.in-Number.is c.in_ok-first-in-Number.ensures

pub returns-in_err-first-in-Tries : goal.returns-in_err-first-in-Tries
returns-in_err-first-in-Tries c = λ before are.
    c.from_residual-in_err-first-in-Tries.ensures ∙ tries_once c.args.self before are c.args.option c.in-Tries.number None c.in-Tries.is c.in_err-first-in-Tries.ensures

pub returns-in_ok-first-in-Tries : goal.returns-in_ok-first-in-Tries
returns-in_ok-first-in-Tries c = λ before are.
    tries_once c.args.self before are c.args.option c.in-Tries.number (Some c.in_ok-first-in-Tries.field-0) c.in-Tries.is c.in_ok-first-in-Tries.ensures

pub returns-in_err-first-in-Job : goal.returns-in_err-first-in-Job
returns-in_err-first-in-Job c = λ before are.
    c.from_residual-in_err-first-in-Job.ensures ∙ job_once c.args.self before are c.args.option c.in-Job.id None c.in-Job.is c.in_err-first-in-Job.ensures

pub returns-in_ok-first-in-Job : goal.returns-in_ok-first-in-Job
returns-in_ok-first-in-Job c = λ before are.
    job_once c.args.self before are c.args.option c.in-Job.id (Some c.in_ok-first-in-Job.field-0) c.in-Job.is c.in_ok-first-in-Job.ensures

pub returns-in-Socket : goal.returns-in-Socket
returns-in-Socket c = λ before are. socket_once c.args.self before are c.args.option c.with_socket.result c.in-Socket.is c.with_socket.ensures

pub returns-in-Log : goal.returns-in-Log
returns-in-Log c = λ before are. log_once c.args.self before are c.args.option c.with_log.result c.in-Log.is c.with_log.ensures
