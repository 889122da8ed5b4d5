mod Findings
