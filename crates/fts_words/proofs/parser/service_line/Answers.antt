-- The command line of a service is the definition's.
use Rattle.std.proofs.Common.{◌≡◌, ap, ap₂, ◌∙◌, rules}
use Rattle.std.proofs.lemmas.Result.{IfOk-weaker}
use Rattle.clap.specs.Words.{App, app_of, with_rule, with_subcommand}
use Rattle.fts_words.specs.CommandLine.{load_command, program}
use Rattle.fts_words.proofs.Entered.{third}
use Rattle.fts_words.proofs.parser.service_line.Goals as goal

pub returns : goal.returns
returns c =
    let program_is : app_of c.disable_help_subcommand.result ≡ program = search rules in
    let session_is = c.in_ok-subcommand.ensures.shape (third _ _ _ _ (ap (λ (a : App). a.top.is_plain) c.bare_command.ensures))
    ∙ ap₂ with_subcommand program_is (ap (λ (a : App). a.top) c.bare_command.ensures) in
    let show_is = c.in_ok-subcommand-2.ensures.shape (third _ _ _ _ (ap (λ (a : App). a.top.is_plain) c.bare_command-2.ensures))
    ∙ ap₂ with_subcommand session_is (ap (λ (a : App). a.top) c.bare_command-2.ensures) in
    let load_is : app_of c.in_ok-arg.field-0 ≡ load_command = c.in_ok-arg.ensures.shape c.option.ensures.local ∙ ap₂ with_rule c.bare_command-3.ensures c.option.ensures.rule in
    let three_are = c.in_ok-subcommand-3.ensures.shape (third _ _ _ _ (ap (λ (a : App). a.top.is_plain) load_is))
    ∙ ap₂ with_subcommand show_is (ap (λ (a : App). a.top) load_is) in
    let serve_is = c.in_ok-serve.ensures in
    IfOk-weaker c.subcommand-4.result _ _ (λ line adds. adds.shape (third _ _ _ _ (ap (λ (a : App). a.top.is_plain) serve_is))
    ∙ ap₂ with_subcommand three_are (ap (λ (a : App). a.top) serve_is)) c.subcommand-4.ensures
