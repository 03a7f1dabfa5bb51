-- How the commands are called, and the text of the help.
use Rattle.std.specs.Prelude.{◌++◌, codes}
use Rattle.clap.specs.Words.{Text}
use Rattle.program_words.specs.declared.command_kind.CommandKind.{CommandKind}
use Rattle.program_words.specs.declared.command_kind.CommandKind.TheVariants as kind
use Rattle.program_words.specs.declared.help.TheConstants.{HEAD, TAIL, VERSION_LINE}
use Rattle.program_words.specs.declared.usage.TheConstants.{RUN, ALONE, LIST, LOAD, AUDIT, TRY, HELP, VERSION}
use Rattle.program_words.specs.declared.usage.TheConstants.{RUN_PURPOSE, ALONE_PURPOSE, LIST_PURPOSE, LOAD_PURPOSE, AUDIT_PURPOSE, TRY_PURPOSE, HELP_PURPOSE, VERSION_PURPOSE}

-- how a command is called
abbrev pub usage_of : CommandKind → Text
usage_of kind.Run = RUN.now
usage_of kind.Alone = ALONE.now
usage_of kind.List = LIST.now
usage_of kind.Load = LOAD.now
usage_of kind.Audit = AUDIT.now
usage_of kind.Try = TRY.now
usage_of kind.Help = HELP.now
usage_of kind.Version = VERSION.now

-- what it does
abbrev pub purpose_of : CommandKind → Text
purpose_of kind.Run = RUN_PURPOSE.now
purpose_of kind.Alone = ALONE_PURPOSE.now
purpose_of kind.List = LIST_PURPOSE.now
purpose_of kind.Load = LOAD_PURPOSE.now
purpose_of kind.Audit = AUDIT_PURPOSE.now
purpose_of kind.Try = TRY_PURPOSE.now
purpose_of kind.Help = HELP_PURPOSE.now
purpose_of kind.Version = VERSION_PURPOSE.now

-- the part of the help on a command
unfoldable pub section_of : CommandKind → Text
section_of k = codes "\n" ++ (usage_of k ++ purpose_of k)

-- the help
abbrev pub help_text : Text
help_text = HEAD.now ++ (section_of kind.Run ++ (section_of kind.Alone ++ (section_of kind.List
    ++ (section_of kind.Load ++ (section_of kind.Audit ++ (section_of kind.Try
    ++ (section_of kind.Help ++ (section_of kind.Version ++ TAIL.now))))))))

-- the version
abbrev pub version_text : Text
version_text = VERSION_LINE.now
