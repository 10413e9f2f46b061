use Rattle.speed.proofs.look.rounds.run.Given as goal

abbrev pub ghosts-run_named-J-HubName : goal.ghosts-run_named-J-HubName
ghosts-run_named-J-HubName g a = record { origin = a.parts.origin; book = a.parts.book }

abbrev pub ghosts-run_named-L-Ledger : goal.ghosts-run_named-L-Ledger
ghosts-run_named-L-Ledger g a = record { name = a.parts.first_name; parts = a.parts.first_parts }

abbrev pub ghosts-run_named-M-Ledger : goal.ghosts-run_named-M-Ledger
ghosts-run_named-M-Ledger g a = record { name = a.parts.second_name; parts = a.parts.second_parts }
