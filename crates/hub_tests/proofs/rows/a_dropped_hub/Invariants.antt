use Rattle.hub_tests.proofs.rows.a_dropped_hub.Given as goal

abbrev pub ghosts-dropped-J-HubName : goal.ghosts-dropped-J-HubName
ghosts-dropped-J-HubName g a = record { origin = a.parts.origin; book = a.parts.book }

abbrev pub ghosts-dropped-L-Ledger : goal.ghosts-dropped-L-Ledger
ghosts-dropped-L-Ledger g a = record { name = a.parts.first_name; parts = a.parts.first_parts }

abbrev pub ghosts-dropped-M-Ledger : goal.ghosts-dropped-M-Ledger
ghosts-dropped-M-Ledger g a = record { name = a.parts.second_name; parts = a.parts.second_parts }
