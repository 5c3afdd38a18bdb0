-- The command line is the definition's.
use Rattle.std.proofs.Common.{◌≡◌, ap, ap₂, ◌∙◌}
use Rattle.std.proofs.lemmas.Result.{IfOk-weaker}
use Rattle.clap.specs.Words.{App, app_of, with_subcommand}
use Rattle.fts_words.specs.CommandLine.{with_client_options, submit_command, follow_command}
use Rattle.fts_words.proofs.Entered.{third}
use Rattle.fts_words.proofs.parser.command_line.Goals as goal

pub returns : goal.returns
returns c =
    let submit_is : app_of c.in_ok-with_client_options.field-0 ≡ submit_command = c.in_ok-with_client_options.ensures ∙ ap with_client_options c.bare_command.ensures in
    let one_is = c.in_ok-subcommand.ensures.shape (third _ _ _ _ (ap (λ (a : App). a.top.is_plain) submit_is))
    ∙ ap₂ with_subcommand c.in_ok-service_line.ensures (ap (λ (a : App). a.top) submit_is) in
    let two_are = c.in_ok-subcommand-2.ensures.shape (third _ _ _ _ (ap (λ (a : App). a.top.is_plain) c.in_ok-query.ensures))
    ∙ ap₂ with_subcommand one_is (ap (λ (a : App). a.top) c.in_ok-query.ensures) in
    let three_are = c.in_ok-subcommand-3.ensures.shape (third _ _ _ _ (ap (λ (a : App). a.top.is_plain) c.bare_command-2.ensures))
    ∙ ap₂ with_subcommand two_are (ap (λ (a : App). a.top) c.bare_command-2.ensures) in
    let follow_is : app_of c.in_ok-with_client_options-2.field-0 ≡ follow_command = c.in_ok-with_client_options-2.ensures ∙ ap with_client_options c.bare_command-3.ensures in
    IfOk-weaker c.subcommand-4.result _ _ (λ line adds. adds.shape (third _ _ _ _ (ap (λ (a : App). a.top.is_plain) follow_is))
    ∙ ap₂ with_subcommand three_are (ap (λ (a : App). a.top) follow_is)) c.subcommand-4.ensures
