use Rattle.hub_tests.proofs.threads.race_of.Given as goal

abbrev pub ghosts-race-J-HubName : goal.ghosts-race-J-HubName
ghosts-race-J-HubName g a = record { origin = a.parts.origin; book = a.parts.book }

abbrev pub ghosts-race-L-Ledger : goal.ghosts-race-L-Ledger
ghosts-race-L-Ledger g a = record { name = a.parts.first_name; parts = a.parts.first_parts }

abbrev pub ghosts-race-M-Ledger : goal.ghosts-race-M-Ledger
ghosts-race-M-Ledger g a = record { name = a.parts.second_name; parts = a.parts.second_parts }
